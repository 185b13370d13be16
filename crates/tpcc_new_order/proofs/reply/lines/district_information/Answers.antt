use Rattle.std.proofs.Common.{◌≡◌, ◌∙◌, ℕ, ◌<◌, ◌-◌, List, [], length, get_or, sym, arith}
use Rattle.std.specs.Prelude.{slice_get, unwrap_or}
use Rattle.std.proofs.lemmas.List.{get_or_read}
use Rattle.std.proofs.lemmas.Option.{unwrap_or-slice_get}
use Rattle.tpcc_laws.proofs.Numbers.{within}
use Rattle.tpcc_new_order.proofs.reply.lines.district_information.Goals as goal

read : {X : Type 0} (xs : List X) (i : ℕ) (x d : X) → i < length xs → x ≡ get_or xs i x → get_or xs i x ≡ unwrap_or (slice_get xs i) d
read xs i x d inside is = sym is ∙ get_or_read xs i x inside is d ∙ sym (unwrap_or-slice_get xs i d)

pub returns : goal.returns
returns c =
    let some = within 1 10 c.args.district c.requires.district in
    read c.args.stock.now.district_information (c.args.district - 1) c.index-stock-district.result [] (omega (arith, some.0, some.1)) c.index-stock-district.is
