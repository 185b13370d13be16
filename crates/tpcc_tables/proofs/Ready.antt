-- Tables stay ready for an order.
use Rattle.std.proofs.Common.{◌≡◌, ℕ, ◌<◌, ◌≤◌, Bool, true, false, List, [], ◌∷◌, ◌++◌, ◌+◌, ◌∙◌, refl, sym, arith, ap, Some, length, take, get_or}
use Rattle.std.specs.Prelude.{◌&&◌, find}
use Rattle.std.proofs.lemmas.List.{take_more}
use Rattle.std.proofs.lemmas.List.Folds.{list_all-append}
use Rattle.tpcc_rows.proofs.Booleans.{both_true}
use Rattle.tpcc_rows.specs.declared.tables.keys.DistrictKey.{DistrictKey}
use Rattle.tpcc_rows.specs.declared.tables.rows.DistrictRow.{DistrictRow}
use Rattle.tpcc_rows.specs.declared.tables.rows.OrderRow.{OrderRow}
use Rattle.tpcc_rows.specs.declared.tables.rows.OrderLineRow.{OrderLineRow}
use Rattle.tpcc_rows.specs.declared.tables.rows.NewOrderRow.{NewOrderRow}
use Rattle.tpcc_rows.specs.Lists.{updated}
use Rattle.tpcc_rows.specs.Tables.{district_key}
use Rattle.tpcc_laws.proofs.List.{list_all-mono, key-chosen}
use Rattle.tpcc_storage.specs.ByDistrict.{ByDistrictView, has_owner}
use Rattle.tpcc_tables.specs.Internal.Ready.{is_open, IsOpen, IsReady, IsOpening}

-- no district loses its part
abbrev pub KeepsOwners : List DistrictKey → List DistrictKey → Type 0
KeepsOwners old new = (k : List ℕ) → has_owner old k ≡ true → has_owner new k ≡ true

open-kept : (old new : List DistrictKey) → KeepsOwners old new → (ds : List DistrictRow) → is_open old ds ≡ true → is_open new ds ≡ true
open-kept old new keeps ds h = list_all-mono (λ d. has_owner old (district_key d)) (λ d. has_owner new (district_key d)) (λ d. keeps (district_key d)) ds h

-- districts that are changed keep their keys
pub open-updated : (passes : DistrictRow → Bool) (change : DistrictRow → DistrictRow) → ((d : DistrictRow) → district_key (change d) ≡ district_key d) → (owners : List DistrictKey) (ds : List DistrictRow) → is_open owners (updated passes change ds) ≡ is_open owners ds
open-updated passes change same owners [] = refl
open-updated passes change same owners (d ∷ ds) = λ i. has_owner owners (key-chosen district_key passes change same d i) && open-updated passes change same owners ds i

-- with no room promised it is enough that no district loses its part
pub ready-kept : (b : Bool) (r : ℕ) (ds : List DistrictRow) (os os2 : ByDistrictView OrderRow) (ls ls2 : ByDistrictView OrderLineRow) (ns ns2 : ByDistrictView NewOrderRow) → KeepsOwners os.owners os2.owners → KeepsOwners ls.owners ls2.owners → KeepsOwners ns.owners ns2.owners → IsReady b r ds os ls ns → IsReady b 0 ds os2 ls2 ns2
ready-kept b r ds os os2 ls ls2 ns ns2 ko kl kn h =
    record {
      parts = λ is. record {
        orders = open-kept os.owners os2.owners ko ds (h.parts is).orders;
        lines = open-kept ls.owners ls2.owners kl ds (h.parts is).lines;
        news = open-kept ns.owners ns2.owners kn ds (h.parts is).news;
      };
      opened = λ lt. absurd (omega (arith, lt));
      room = λ lt. absurd (omega (arith, lt));
    }

-- and where no room is lost either, what was promised stays
pub ready-grown : (b : Bool) (r : ℕ) (ds : List DistrictRow) (os os2 : ByDistrictView OrderRow) (ls ls2 : ByDistrictView OrderLineRow) (ns ns2 : ByDistrictView NewOrderRow) → KeepsOwners os.owners os2.owners → KeepsOwners ls.owners ls2.owners → KeepsOwners ns.owners ns2.owners → os.room ≤ os2.room → ls.room ≤ ls2.room → ns.room ≤ ns2.room → IsReady b r ds os ls ns → IsReady b r ds os2 ls2 ns2
ready-grown b r ds os os2 ls ls2 ns ns2 ko kl kn ro rl rn h =
    record {
      parts = (ready-kept b r ds os os2 ls ls2 ns ns2 ko kl kn h).parts;
      opened = h.opened;
      room = λ lt. let k = h.room lt in record { orders = omega (arith, k.orders, ro); lines = omega (arith, k.lines, rl); news = omega (arith, k.news, rn) };
    }

pub keeps-same : (old new : List DistrictKey) → new ≡ old → KeepsOwners old new
keeps-same old new e k h = ap (λ ks. has_owner ks k) e ∙ h

pub ready-updated : (b : Bool) (r : ℕ) (passes : DistrictRow → Bool) (change : DistrictRow → DistrictRow) (ds : List DistrictRow) (os : ByDistrictView OrderRow) (ls : ByDistrictView OrderLineRow) (ns : ByDistrictView NewOrderRow) → ((d : DistrictRow) → district_key (change d) ≡ district_key d) → IsReady b r ds os ls ns → IsReady b r (updated passes change ds) os ls ns
ready-updated b r passes change ds os ls ns same h =
    record {
      parts = λ is. record {
        orders = open-updated passes change same os.owners ds ∙ (h.parts is).orders;
        lines = open-updated passes change same ls.owners ds ∙ (h.parts is).lines;
        news = open-updated passes change same ns.owners ds ∙ (h.parts is).news;
      };
      opened = h.opened;
      room = h.room;
    }

pub ready-none : (ds : List DistrictRow) (os : ByDistrictView OrderRow) (ls : ByDistrictView OrderLineRow) (ns : ByDistrictView NewOrderRow) → IsReady false 0 ds os ls ns
ready-none ds os ls ns = record { parts = λ is. cc; opened = λ lt. absurd (omega (arith, lt)); room = λ lt. absurd (omega (arith, lt)) }

-- a district that is there has its part
found_step : (owners : List DistrictKey) (passes : DistrictRow → Bool) (x : DistrictRow) (ds : List DistrictRow) (d : DistrictRow) (b : Bool) → passes x ≡ b → is_open owners (x ∷ ds) ≡ true → find passes (x ∷ ds) ≡ Some d → (is_open owners ds ≡ true → find passes ds ≡ Some d → has_owner owners (district_key d) ≡ true) → has_owner owners (district_key d) ≡ true
found_step owners passes x ds d true is h e next =
    let same : x ≡ d = grind (arith, is) in
    let here : has_owner owners (district_key x) ≡ true = grind (arith, h) in
    ap (λ y. has_owner owners (district_key y)) (sym same) ∙ here
found_step owners passes x ds d false is h e next =
    let rest : is_open owners ds ≡ true = grind (arith, h) in
    let later : find passes ds ≡ Some d = grind (arith, is) in
    next rest later

pub open-found : (owners : List DistrictKey) (passes : DistrictRow → Bool) (ds : List DistrictRow) (d : DistrictRow) → is_open owners ds ≡ true → find passes ds ≡ Some d → has_owner owners (district_key d) ≡ true
open-found owners passes [] d h e = cc
open-found owners passes (x ∷ ds) d h e = found_step owners passes x ds d (passes x) refl h e (open-found owners passes ds d)

-- an order for which there is room finds its parts
pub parted : (b : Bool) (r n : ℕ) (ds : List DistrictRow) (os : ByDistrictView OrderRow) (ls : ByDistrictView OrderLineRow) (ns : ByDistrictView NewOrderRow) → IsReady b r ds os ls ns → n < r → IsOpen ds os ls ns
parted b r n ds os ls ns h lt = h.parts (h.opened (omega (arith, lt)))

-- one more district has its part
pub opening-more : {T : Type 0} (old now new : ByDistrictView T) (ds : List DistrictRow) (n : ℕ) (d : DistrictRow) → IsOpening old now ds n → n < length ds → d ≡ get_or ds n d → new.rows ≡ now.rows → new.room ≡ now.room → KeepsOwners now.owners new.owners → has_owner new.owners (district_key d) ≡ true → IsOpening old new ds (n + 1)
opening-more old now new ds n d h lt is rows room keeps has =
    record {
      kept = record { rows = rows ∙ h.kept.rows; room = room ∙ h.kept.room; owners = λ k e. keeps k (h.kept.owners k e) };
      opened =
          ap (is_open new.owners) (take_more ds n d lt ∙ ap (λ x. take n ds ++ x ∷ []) (sym is))
          ∙ list_all-append (λ x. has_owner new.owners (district_key x)) (take n ds) (d ∷ [])
          ∙ both_true (is_open new.owners (take n ds)) (has_owner new.owners (district_key d) && true) (open-kept now.owners new.owners keeps (take n ds) h.opened) (both_true (has_owner new.owners (district_key d)) true has refl);
    }
