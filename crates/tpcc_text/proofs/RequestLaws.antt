-- The line of a request is read as this request, and a journal's lines as the requests of its entries.
use Rattle.std.proofs.Common.{◌≡◌, refl, ap, sym, ◌∙◌, ℕ, ◌+◌, ◌≤◌, Bool, true, false, List, [], ◌∷◌, ◌++◌, append_assoc, append-nil, length, Some, None, arith}
use Rattle.std.specs.Prelude.{nat_le, nat_lt, ◌==◌, if◌then◌else◌, decimal, codes, map}
use Rattle.std.specs.List.{list_all}
use Rattle.std.proofs.lemmas.List.{length-map}
use Rattle.std.proofs.lemmas.Bool.Decides.{nat_tests}
use Rattle.tpcc_money.specs.Texts.{amount_text}
use Rattle.tpcc_rows.specs.declared.transactions.requests.Line.{Line}
use Rattle.tpcc_rows.specs.declared.transactions.requests.Order.{Order}
use Rattle.tpcc_rows.specs.declared.transactions.requests.Payment.{Payment}
use Rattle.tpcc_rows.specs.declared.transactions.requests.StatusQuery.{StatusQuery}
use Rattle.tpcc_rows.specs.declared.transactions.requests.StockQuery.{StockQuery}
use Rattle.tpcc_rows.specs.declared.transactions.requests.Ticket.{Ticket}
use Rattle.tpcc_rows.specs.declared.transactions.requests.Request.{Request}
use Rattle.tpcc_rows.specs.declared.transactions.requests.Request.TheVariants as ask
use Rattle.tpcc_rows.specs.declared.transactions.entry.Entry.{Entry}
use Rattle.tpcc_rows.proofs.Booleans.{split, both_true}
use Rattle.tpcc_text.specs.Screens.{line}
use Rattle.tpcc_text.specs.RequestLines.{customer_word, order_line_word, order_line, payment_line, status_line, stock_line, delivery_line, deliver_line, request_line, journal_lines}
use Rattle.tpcc_text.specs.declared.script.limits.TheConstants.{LONGEST_LINE, MOST_LINES}
use Rattle.tpcc_text.specs.declared.script.call.Call.TheVariants.{Ask}
use Rattle.tpcc_text.specs.Script.{call_of, call_of_words, call_named, later_named, order_of, order_lines_of, payment_of, status_of, stock_of, delivery_of, deliver_of, parts_of, script_of, lines_say, then_says, with_call, with_byte}
use Rattle.tpcc_text.specs.Sayable.{is_amount, is_order_line, has_words, fits_line, is_sayable}
use Rattle.tpcc_text.proofs.PartLaws.{is_word, is_brief, words, words_length, line_is, words_apart, words_free, word_free, line_free, part_before}
use Rattle.tpcc_text.proofs.WordLaws.{bound, number_word, number_read, number_brief, moment_word, moment_read, moment_brief, who_word, who_read, who_brief, amount_word, amount_read, amount_brief, line_word, line_read, line_brief}

-- the name and the words of a request's line
pub record Says (request : Request) : Type 0 where
  pub name : List ℕ
  pub more : List (List ℕ)
  pub text : request_line request ≡ line name more
  pub of_words : is_word name ≡ true
  pub all_words : list_all is_word more ≡ true
  pub read : call_of_words (name ∷ more) ≡ Some (Ask request)
  pub brief_name : is_brief name ≡ true
  pub brief_words : list_all is_brief more ≡ true
  pub few : length more ≤ 104

lines_read : (ls : List Line) → list_all is_order_line ls ≡ true → order_lines_of (map order_line_word ls) ≡ Some ls
lines_read [] h = refl
lines_read (l ∷ ls) h = let s = split _ _ h in rw (line_read l s.0) (rw (lines_read ls s.1) refl)

line_words : (ls : List Line) → list_all is_order_line ls ≡ true → list_all is_word (map order_line_word ls) ≡ true
line_words [] h = refl
line_words (l ∷ ls) h = let s = split _ _ h in both_true (is_word (order_line_word l)) _ (line_word l s.0) (line_words ls s.1)

lines_brief : (ls : List Line) → list_all is_order_line ls ≡ true → list_all is_brief (map order_line_word ls) ≡ true
lines_brief [] h = refl
lines_brief (l ∷ ls) h = let s = split _ _ h in both_true (is_brief (order_line_word l)) _ (line_brief l s.0) (lines_brief ls s.1)

order_says : (o : Order) → has_words (ask.NewOrder o) ≡ true → nat_le (length o.lines) 100 ≡ true → Says (ask.NewOrder o)
unfolding order_line call_named order_of
order_says o h few =
    let w = split _ _ h in
    let d = split _ _ w.1 in
    let c = split _ _ d.1 in
    let m = split _ _ c.1 in
    record {
      name = codes "new-order";
      more = decimal o.warehouse ∷ decimal o.district ∷ decimal o.customer ∷ decimal o.moment ∷ map order_line_word o.lines;
      text = refl;
      of_words = refl;
      all_words = both_true _ _ (number_word o.warehouse w.0) (both_true _ _ (number_word o.district d.0) (both_true _ _ (number_word o.customer c.0) (both_true _ _ (moment_word o.moment m.0) (line_words o.lines m.1))));
      read = rw (number_read o.warehouse w.0) (rw (number_read o.district d.0) (rw (number_read o.customer c.0) (rw (moment_read o.moment m.0) (rw (lines_read o.lines m.1) refl))));
      brief_name = refl;
      brief_words = both_true _ _ (number_brief o.warehouse w.0) (both_true _ _ (number_brief o.district d.0) (both_true _ _ (number_brief o.customer c.0) (both_true _ _ (moment_brief o.moment m.0) (lines_brief o.lines m.1))));
      few = omega (arith, length-map o.lines order_line_word, bound 100 (length o.lines) few);
    }

payment_says : (p : Payment) → has_words (ask.Payment p) ≡ true → is_amount p.amount ≡ true → Says (ask.Payment p)
unfolding payment_line call_named payment_of
payment_says p h amount =
    let w = split _ _ h in
    let d = split _ _ w.1 in
    let cw = split _ _ d.1 in
    let cd = split _ _ cw.1 in
    let c = split _ _ cd.1 in
    record {
      name = codes "payment";
      more = decimal p.warehouse ∷ decimal p.district ∷ decimal p.customer_warehouse ∷ decimal p.customer_district ∷ customer_word p.who ∷ amount_text p.amount ∷ decimal p.moment ∷ [];
      text = refl;
      of_words = refl;
      all_words = both_true _ _ (number_word p.warehouse w.0) (both_true _ _ (number_word p.district d.0) (both_true _ _ (number_word p.customer_warehouse cw.0) (both_true _ _ (number_word p.customer_district cd.0) (both_true _ _ (who_word p.who c.0) (both_true _ _ (amount_word p.amount amount) (both_true _ _ (moment_word p.moment c.1) refl))))));
      read = rw (number_read p.warehouse w.0) (rw (number_read p.district d.0) (rw (number_read p.customer_warehouse cw.0) (rw (number_read p.customer_district cd.0) (rw (who_read p.who c.0) (rw (amount_read p.amount amount) (rw (moment_read p.moment c.1) refl))))));
      brief_name = refl;
      brief_words = both_true _ _ (number_brief p.warehouse w.0) (both_true _ _ (number_brief p.district d.0) (both_true _ _ (number_brief p.customer_warehouse cw.0) (both_true _ _ (number_brief p.customer_district cd.0) (both_true _ _ (who_brief p.who c.0) (both_true _ _ (amount_brief p.amount amount) (both_true _ _ (moment_brief p.moment c.1) refl))))));
      few = omega arith;
    }

status_says : (q : StatusQuery) → has_words (ask.Status q) ≡ true → Says (ask.Status q)
unfolding status_line call_named status_of
status_says q h =
    let w = split _ _ h in
    let d = split _ _ w.1 in
    record {
      name = codes "status";
      more = decimal q.warehouse ∷ decimal q.district ∷ customer_word q.who ∷ [];
      text = refl;
      of_words = refl;
      all_words = both_true _ _ (number_word q.warehouse w.0) (both_true _ _ (number_word q.district d.0) (both_true _ _ (who_word q.who d.1) refl));
      read = rw (number_read q.warehouse w.0) (rw (number_read q.district d.0) (rw (who_read q.who d.1) refl));
      brief_name = refl;
      brief_words = both_true _ _ (number_brief q.warehouse w.0) (both_true _ _ (number_brief q.district d.0) (both_true _ _ (who_brief q.who d.1) refl));
      few = omega arith;
    }

stock_says : (q : StockQuery) → has_words (ask.Stock q) ≡ true → Says (ask.Stock q)
unfolding stock_line call_named stock_of
stock_says q h =
    let w = split _ _ h in
    let d = split _ _ w.1 in
    record {
      name = codes "stock";
      more = decimal q.warehouse ∷ decimal q.district ∷ decimal q.threshold ∷ [];
      text = refl;
      of_words = refl;
      all_words = both_true _ _ (number_word q.warehouse w.0) (both_true _ _ (number_word q.district d.0) (both_true _ _ (number_word q.threshold d.1) refl));
      read = rw (number_read q.warehouse w.0) (rw (number_read q.district d.0) (rw (number_read q.threshold d.1) refl));
      brief_name = refl;
      brief_words = both_true _ _ (number_brief q.warehouse w.0) (both_true _ _ (number_brief q.district d.0) (both_true _ _ (number_brief q.threshold d.1) refl));
      few = omega arith;
    }

delivery_says : (t : Ticket) → has_words (ask.Delivery t) ≡ true → Says (ask.Delivery t)
unfolding delivery_line call_named later_named delivery_of
delivery_says t h =
    let w = split _ _ h in
    let c = split _ _ w.1 in
    record {
      name = codes "delivery";
      more = decimal t.warehouse ∷ decimal t.carrier ∷ decimal t.queued ∷ [];
      text = refl;
      of_words = refl;
      all_words = both_true _ _ (number_word t.warehouse w.0) (both_true _ _ (number_word t.carrier c.0) (both_true _ _ (moment_word t.queued c.1) refl));
      read = rw (number_read t.warehouse w.0) (rw (number_read t.carrier c.0) (rw (moment_read t.queued c.1) refl));
      brief_name = refl;
      brief_words = both_true _ _ (number_brief t.warehouse w.0) (both_true _ _ (number_brief t.carrier c.0) (both_true _ _ (moment_brief t.queued c.1) refl));
      few = omega arith;
    }

deliver_says : (at : ℕ) → has_words (ask.Deliver at) ≡ true → Says (ask.Deliver at)
unfolding deliver_line call_named later_named deliver_of
deliver_says at h =
    record {
      name = codes "deliver";
      more = decimal at ∷ [];
      text = refl;
      of_words = refl;
      all_words = both_true _ _ (moment_word at h) refl;
      read = rw (moment_read at h) refl;
      brief_name = refl;
      brief_words = both_true _ _ (moment_brief at h) refl;
      few = omega arith;
    }

says_both : (request : Request) → has_words request ≡ true → fits_line request ≡ true → Says request
says_both (ask.NewOrder order) h brief = order_says order h brief
says_both (ask.Payment payment) h brief = payment_says payment h brief
says_both (ask.Status query) h brief = status_says query h
says_both (ask.Stock query) h brief = stock_says query h
says_both (ask.Delivery ticket) h brief = delivery_says ticket h
says_both (ask.Deliver at) h brief = deliver_says at h

says : (request : Request) → is_sayable request ≡ true → Says request
says request h = let both = split (has_words request) (fits_line request) h in says_both request both.0 both.1

-- the parts of any bytes: there is a first one
record HasFirst (parts : List (List ℕ)) : Type 0 where
  first : List ℕ
  rest : List (List ℕ)
  whole : parts ≡ first ∷ rest

first_onto : (byte : ℕ) (parts : List (List ℕ)) (t : Bool) → HasFirst parts → HasFirst (if t then [] ∷ parts else with_byte byte parts)
first_onto byte parts true h = record { first = []; rest = parts; whole = refl }
first_onto byte parts false h = record { first = byte ∷ h.first; rest = h.rest; whole = ap (with_byte byte) h.whole }

some_part : (divider : ℕ) (bytes : List ℕ) → HasFirst (parts_of divider bytes)
some_part divider [] = record { first = []; rest = []; whole = refl }
some_part divider (byte ∷ bytes) = first_onto byte (parts_of divider bytes) (byte == divider) (some_part divider bytes)

-- one line that is neither too late nor too long
says_line : (number : ℕ) (text : List ℕ) (parts : List (List ℕ)) → HasFirst parts → nat_lt MOST_LINES number ≡ false → nat_lt LONGEST_LINE (length text) ≡ false → lines_say number (text ∷ parts) ≡ then_says number (call_of text) (lines_say (number + 1) parts)
says_line number text parts h early short =
    ap (λ z. lines_say number (text ∷ z)) h.whole
    ∙ rw early (rw short refl)
    ∙ ap (λ z. then_says number (call_of text) (lines_say (number + 1) z)) (sym h.whole)

-- the line of a request, taken off a text
line_off : (request : Request) (s : Says request) (behind : List ℕ) → parts_of 10 (request_line request ++ behind) ≡ words s.name s.more ∷ parts_of 10 behind
line_off request s behind =
    ap (λ z. parts_of 10 (z ++ behind)) (s.text ∙ line_is s.name s.more)
    ∙ ap (parts_of 10) (append_assoc (words s.name s.more) (10 ∷ []) behind)
    ∙ part_before 10 (words s.name s.more) behind (line_free s.name s.more s.of_words s.all_words)

line_is_read : (request : Request) (s : Says request) → call_of (words s.name s.more) ≡ Some (Ask request)
unfolding call_of
line_is_read request s =
    ap call_of_words (words_apart s.name s.more (word_free 32 s.name refl s.of_words) (words_free 32 s.more refl s.all_words)) ∙ s.read

line_is_short : (request : Request) (s : Says request) → nat_lt LONGEST_LINE (length (words s.name s.more)) ≡ false
line_is_short request s =
    let l = words_length s.name s.more s.brief_name s.brief_words in
    let f = s.few in
    let most : length (words s.name s.more) ≤ LONGEST_LINE = omega (arith, l, f) in
    grind (arith, nat_tests)

lines_are_read : (number : ℕ) (entries : List Entry) → list_all (λ e. is_sayable e.request) entries ≡ true → number + length entries ≤ MOST_LINES + 1 → lines_say number (parts_of 10 (journal_lines entries)) ≡ record { calls = map (λ e. Ask e.request) entries; fault = None }
lines_are_read number [] h few = refl
lines_are_read number (e ∷ es) h few =
    let t = split (is_sayable e.request) (list_all (λ x. is_sayable x.request) es) h in
    let s = says e.request t.0 in
    let room : number ≤ MOST_LINES = omega (arith, few) in
    let early : nat_lt MOST_LINES number ≡ false = grind (arith, nat_tests) in
    ap (lines_say number) (line_off e.request s (journal_lines es))
    ∙ says_line number (words s.name s.more) (parts_of 10 (journal_lines es)) (some_part 10 (journal_lines es)) early (line_is_short e.request s)
    ∙ ap (λ z. then_says number z (lines_say (number + 1) (parts_of 10 (journal_lines es)))) (line_is_read e.request s)
    ∙ ap (with_call (Ask e.request)) (lines_are_read (number + 1) es t.1 (omega (arith, few)))

-- a journal, written as a script, says the requests of its entries
pub journal_is_read : (entries : List Entry) → list_all (λ e. is_sayable e.request) entries ≡ true → length entries ≤ MOST_LINES → script_of (journal_lines entries) ≡ record { calls = map (λ e. Ask e.request) entries; fault = None }
unfolding script_of
journal_is_read entries h few = lines_are_read 1 entries h (omega (arith, few))

-- the line of a request is at most 4,096 bytes and is read as this request
pub request_is_read : (request : Request) → is_sayable request ≡ true → script_of (request_line request) ≡ record { calls = Ask request ∷ []; fault = None }
unfolding script_of
request_is_read request h =
    let s = says request h in
    ap (λ z. lines_say 1 (parts_of 10 z)) (sym (append-nil (request_line request)))
    ∙ ap (lines_say 1) (line_off request s [])
    ∙ says_line 1 (words s.name s.more) (parts_of 10 []) (some_part 10 []) refl (line_is_short request s)
    ∙ ap (λ z. then_says 1 z (lines_say 2 (parts_of 10 []))) (line_is_read request s)
