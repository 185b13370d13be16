-- Orders and a payment between two warehouses, computed.
use Rattle.std.proofs.Common.{◌≡◌, refl, [], ◌∷◌}
use Rattle.std.specs.Prelude.{pos, neg_ℤ, None, false}
use Rattle.tpcc_money.specs.Amounts.{total}
use Rattle.tpcc_rows.specs.declared.transactions.requests.Request.{Request}
use Rattle.tpcc_rows.specs.declared.transactions.requests.Who.TheVariants.{Number}
use Rattle.tpcc_rows.specs.Tables.{Rows, State, warehouse_at, district_at, customer_at, order_at, stock_at, lines_of}
use Rattle.tpcc_rows.specs.Conditions.{first_broken}
use Rattle.tpcc_rows.specs.Opening.{plain_rows}
use Rattle.tpcc_rows.specs.Turn.{state_after}
use Rattle.tpcc_theorems.proofs.Small.{all_definitions, pays, line, of_lines, stock_columns}

abbrev two : State
two = record { rows = plain_rows (record { warehouses = 2; customers = 10; items = 100 }); queue = [] }

abbrev remote : Request
remote = of_lines (line 1 1 1 ∷ line 2 1 1 ∷ line 3 1 1 ∷ line 4 1 1 ∷ line 5 2 3 ∷ [])

abbrev after_remote : State
after_remote = state_after two remote

remote_order : (order_at after_remote.rows 1 1 11).all_local ≡ false
unfolding all_definitions
remote_order = refl

remote_sum : total (λ l. l.amount) (lines_of after_remote.rows 1 1 11) ≡ pos 718
unfolding all_definitions
remote_sum = refl

remote_sold : stock_columns (stock_at after_remote.rows 2 5) ≡ 12 ∷ 3 ∷ 1 ∷ 1 ∷ []
unfolding all_definitions
remote_sold = refl

abbrev after_remote_payment : Rows
after_remote_payment = (state_after after_remote (pays 1 2 2 3 (Number 5) 10000 0)).rows

remote_w_ytd : (warehouse_at after_remote_payment 1).ytd ≡ pos 110000
unfolding all_definitions
remote_w_ytd = refl

remote_d_ytd : (district_at after_remote_payment 1 2).ytd ≡ pos 20000
unfolding all_definitions
remote_d_ytd = refl

remote_balance : (customer_at after_remote_payment 2 3 5).balance ≡ neg_ℤ (pos 11000)
unfolding all_definitions
remote_balance = refl

remote_consistent : first_broken after_remote_payment ≡ None
unfolding all_definitions
remote_consistent = refl
