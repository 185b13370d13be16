use Rattle.std.proofs.Common.{rules, ◌≡◌, ◌+◌, ◌*◌, arith, ap, sym, refl, ◌∙◌, ◌++◌, map, length}
use Rattle.std.proofs.lemmas.Grind.{common_steps}
use Rattle.std.proofs.lemmas.List.{length-map}
use Rattle.std.specs.Slots.{slots_items, slots_counts}
use Rattle.tpcc_mailbox.specs.Rule.{words_of}
use Rattle.tpcc_mailbox.specs.Tokens.{client_origin, client_mailbox}
use Rattle.tpcc_mailbox.specs.Internal.Roles.{client_role, server_role}
use Rattle.tpcc_mailbox.proofs.Sorting.{all_from}
use Rattle.tpcc_mailbox.proofs.Joins.{enters}
use Rattle.tpcc_mailbox.proofs.Settles.{apart_of, each_gives, in_hand_held, held_in_hand}
use Rattle.tpcc_mailbox.proofs.table.Mailboxes.reclaim.Goals as goal

pub gather_clients-requires-clause-own : goal.gather_clients-requires-clause-own
gather_clients-requires-clause-own g c = (all_from (λ x. client_origin x ≡ c.args.self.table.shared.table_id) c.args.clients.items c.requires.clients, search rules)

pub gather_servings-requires-clause-own : goal.gather_servings-requires-clause-own
gather_servings-requires-clause-own g c = (all_from (λ x. x.seat.table_id ≡ c.args.self.table.shared.table_id) c.args.servings.items c.requires.servings, search rules)

pub load_new_seat-all-requires : goal.load_new_seat-all-requires
load_new_seat-all-requires g c = (search rules, enters (λ j a. g.A.Answers.fits (g.A.Answers.label j) a) _ _)

pub pick_out-requires-clause-within : goal.pick_out-requires-clause-within
pick_out-requires-clause-within g c i k e = let near = c.gather_clients.ensures.within i k e in let n = c.close_with.ensures.counts.1 in let m = c.unload.ensures.len in let s = c.args.self.sized in (first_of (search rules, grind (arith, common_steps)))

pub pick_out-requires-clause-apart : goal.pick_out-requires-clause-apart
pick_out-requires-clause-apart g c =
    let are = c.gather_servings.ensures.roles ∙ ap (λ l. l ++ map server_role c.args.servings.items) (c.gather_clients.ensures.roles ∙ ap (λ m. m.0.roles ++ map client_role c.args.clients.items) c.load_new_seat-all.ensures.2) in
    apart_of (λ j a. g.A.Answers.fits (g.A.Answers.label j) a) _ (slots_items c.close_with.result.slots) _ _ c.close_with.ensures.values.2 c.args.clients.items c.args.servings.items are c.gather_clients.new.places.items c.gather_clients.ensures.places
    (λ i k e. let near = c.gather_clients.ensures.within i k e in let n = c.close_with.ensures.counts.1 in let m = slots_counts c.close_with.result.slots in let s = c.args.self.sized in (first_of (search rules, grind (arith, common_steps))))

pub returns-clause-left : goal.returns-clause-left
returns-clause-left g c =
    let are = c.gather_servings.ensures.roles ∙ ap (λ l. l ++ map server_role c.args.servings.items) (c.gather_clients.ensures.roles ∙ ap (λ m. m.0.roles ++ map client_role c.args.clients.items) c.load_new_seat-all.ensures.2) in
    each_gives (λ j a. g.A.Answers.fits (g.A.Answers.label j) a) _ (slots_items c.close_with.result.slots) _ _ c.close_with.ensures.values.2 c.args.clients.items c.args.servings.items are c.gather_clients.new.places.items c.unload.new.lefts.items c.pick_out.new.lefts.items
    c.gather_clients.ensures.places
    (λ i k e. let near = c.gather_clients.ensures.within i k e in let n = c.close_with.ensures.counts.1 in let m = slots_counts c.close_with.result.slots in let s = c.args.self.sized in (first_of (search rules, grind (arith, common_steps))))
    c.unload.ensures.each (search rules) c.pick_out.ensures.each

pub returns-clause-held : goal.returns-clause-held
returns-clause-held g c =
    let are = c.gather_servings.ensures.roles ∙ ap (λ l. l ++ map server_role c.args.servings.items) (c.gather_clients.ensures.roles ∙ ap (λ m. m.0.roles ++ map client_role c.args.clients.items) c.load_new_seat-all.ensures.2) in
    held_in_hand (λ j a. g.A.Answers.fits (g.A.Answers.label j) a) _ (slots_items c.close_with.result.slots) _ _ c.close_with.ensures.values.2 c.args.clients.items c.args.servings.items are c.gather_clients.new.places.items c.unload.new.lefts.items c.pick_out.new.lefts.items
    c.gather_clients.ensures.places
    (λ i k e. let near = c.gather_clients.ensures.within i k e in let n = c.close_with.ensures.counts.1 in let m = slots_counts c.close_with.result.slots in let s = c.args.self.sized in (first_of (search rules, grind (arith, common_steps))))
    c.unload.ensures.each (search rules) c.pick_out.ensures.each

pub returns-clause-in_hand : goal.returns-clause-in_hand
returns-clause-in_hand g c =
    let are = c.gather_servings.ensures.roles ∙ ap (λ l. l ++ map server_role c.args.servings.items) (c.gather_clients.ensures.roles ∙ ap (λ m. m.0.roles ++ map client_role c.args.clients.items) c.load_new_seat-all.ensures.2) in
    in_hand_held (λ j a. g.A.Answers.fits (g.A.Answers.label j) a) _ (slots_items c.close_with.result.slots) _ _ c.close_with.ensures.values.2 c.args.clients.items c.args.servings.items are c.gather_clients.new.places.items c.unload.new.lefts.items c.pick_out.new.lefts.items
    c.gather_clients.ensures.places
    (λ i k e. let near = c.gather_clients.ensures.within i k e in let n = c.close_with.ensures.counts.1 in let m = slots_counts c.close_with.result.slots in let s = c.args.self.sized in (first_of (search rules, grind (arith, common_steps))))
    c.unload.ensures.each (search rules) c.pick_out.ensures.each

pub gather_clients-requires-clause-count : goal.gather_clients-requires-clause-count
gather_clients-requires-clause-count g c = let words : c.args.self.table.shared.table_id.words ≡ 16 * (c.args.self.table.shared.table_id.slots + 1) = c.args.self.sized.words in
    (sym c.args.self.counted, omega (arith, words, c.args.self.counted))

pub gather_clients-requires-clause-room : goal.gather_clients-requires-clause-room
gather_clients-requires-clause-room g c = (c.in-Ok.ensures.empty.2, omega (arith, c.in-Ok.ensures.room.2, c.len.ensures))

pub gather_servings-requires-clause-words : goal.gather_servings-requires-clause-words
gather_servings-requires-clause-words g c = let words : c.args.self.table.shared.table_id.words ≡ 16 * (c.args.self.table.shared.table_id.slots + 1) = c.args.self.sized.words in omega (arith, words)

pub unload-requires-clause-full : goal.unload-requires-clause-full
unload-requires-clause-full g c = let counts = c.close_with.ensures.counts in let values = c.close_with.ensures.values in
    (values.0, values.1, counts.0 ∙ (c.args.self.sized.words ∙ ap words_of (sym counts.1)), omega (arith, counts.1, c.args.self.sized.few))

pub unload-requires-clause-room : goal.unload-requires-clause-room
unload-requires-clause-room g c = (c.in-Ok.ensures.empty.1, omega (arith, c.in-Ok.ensures.room.1, c.close_with.ensures.counts.1, c.args.self.counted))

pub pick_out-requires-clause-room : goal.pick_out-requires-clause-room
pick_out-requires-clause-room g c = let same = ap length c.gather_clients.ensures.places ∙ length-map c.args.clients.items client_mailbox in
    (c.in-Ok.ensures.empty.0, omega (arith, c.in-Ok.ensures.room.0, c.len.ensures, same, c.gather_clients.new.places.ok.0, c.args.clients.ok.0))

pub returns-in_default-clause-kept : goal.returns-in_default-clause-kept
returns-in_default-clause-kept g c = (refl, refl, refl)
