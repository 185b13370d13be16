use Rattle.std.proofs.Common.{◌∙◌, ◌≡◌, ◌<◌, ◌≤◌, ◌+◌, ◌-◌, ◌/◌, ℕ, List, Some, None, ap, sym, refl, arith, length, get_or, option_map}
use Rattle.std.specs.Prelude.{filter, slice_get}
use Rattle.std.proofs.lemmas.Option.{slice_get_read, slice_get_past}
use Rattle.tpcc_storage.specs.declared.names.CustomerName.{CustomerName}
use Rattle.tpcc_storage.specs.Names.{is_named}
use Rattle.tpcc_storage.proofs.names.Names.middle.Goals as goal

-- what is read at the middle place is the middle one
read_middle : (named : List CustomerName) (i : ℕ) (n : CustomerName) → i < length named → n ≡ get_or named i n → i ≡ (length named + 1) / 2 - 1 → Some n.id ≡ option_map (λ m. m.id) (slice_get named ((length named + 1) / 2 - 1))
read_middle named i n within is place = rw (← place) (ap (option_map (λ m. m.id)) (sym (slice_get_read named (length named) i n refl within is)))

miss_middle : (named : List CustomerName) (i : ℕ) → length named ≤ i → i ≡ (length named + 1) / 2 - 1 → None ≡ option_map (λ m. m.id) (slice_get named ((length named + 1) / 2 - 1))
miss_middle named i past place = rw (← place) (ap (option_map (λ m. m.id)) (sym (slice_get_past named i past)))

pub returns-in_err-middle : goal.returns-in_err-middle
returns-in_err-middle c =
    let same : c.names_with_last-named.result.now ≡ filter (is_named c.args.warehouse c.args.district c.args.last.now) c.args.self.now = c.names_with_last-named.ensures ∙ ap (filter (is_named c.args.warehouse c.args.district c.args.last.now)) (c.as_slice.ensures.value ∙ c.self.view_is) in
    let missed = c.in_err-middle.ensures in
    c.from_residual.ensures ∙ rw (← same) (miss_middle c.names_with_last-named.result.now _ missed.lookup.3 (omega (arith, c.saturating_sub.ensures)))

pub returns : goal.returns
returns c =
    let same : c.names_with_last-named.result.now ≡ filter (is_named c.args.warehouse c.args.district c.args.last.now) c.args.self.now = c.names_with_last-named.ensures ∙ ap (filter (is_named c.args.warehouse c.args.district c.args.last.now)) (c.as_slice.ensures.value ∙ c.self.view_is) in
    let found = c.in_ok-middle.ensures in
    rw (← same) (read_middle c.names_with_last-named.result.now _ c.in_ok-middle.middle.now found.lookup.3.0 found.lookup.1 (omega (arith, c.saturating_sub.ensures)))
