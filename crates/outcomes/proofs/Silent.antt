-- Where a contract is silent there is no one outcome: so `OneOutcome` says something, and its exceptions are real.
--     run_elsewhere, ..               compared whole, with its address, what `run`, `rest`, `written`, `newest_slot` and `frame_of` hand back is not fixed:
--                                     a part with the same bytes elsewhere fits as well
--     insert_answer, scan_answer      without their clause on the entries that are lent, `insert` and `scan` would have many outcomes
-- Assumes nothing.
use mathlib.Core.Path.{◌≡◌, ap}
use mathlib.Core.HLevel.{⊥_prop}
use mathlib.Core.Logic.{∥∥₁_elim}
use Prim.Native.Nat.{suc, ◌+◌}
use native.Mathlib.Omega.{arith}
use mathlib.Core.List.{List, ◌∷◌}
use lib.ListN.{length}
use seplogic.Ra.Ura.{Ura}
use base.Logic.{SProp, ent, emp, id⊢, via}
use prog.Memory.{Memory}
use prog.Routine.{Routine}
use types.Logic.{Logic}
use contract.Monad.{Fun}
use denote.Ref.{Bor}
use denote.Triple.Entry.{Args, Res}
use denote.Triple.Clauses.{Ended, ClausesAt, Clauses, Lasts, at_exit}
use Rattle.fields.specs.contracts as fields
use Rattle.prefix.specs.contracts as prefix
use Rattle.index.specs.declared.Entry.{Entry}
use Rattle.index.specs.Insert.{none}
use Rattle.index.specs.contracts as index
use Rattle.journal.specs.contracts as journal
use Rattle.outcomes.specs.OneOutcome.{Lives, View, whole, OneAt}

-- an outcome that fits as well when it is changed is not the only one
module _ {M : Type 1} (𝓤 : Ura M) (T : Ended) (κs : Lives T) (a : Args T.signature κs) (c : ClausesAt 𝓤 T κs) (v : View T)
    (other : Res T.signature κs → Res T.signature κs) (others : Lasts T κs a → Lasts T κs a) where
  abbrev says : c.ghost → Res T.signature κs → Lasts T κs a → SProp 𝓤
  says g r ws = c.ensures g r (at_exit T κs a ws)

  many : ((g : c.ghost) (r : Res T.signature κs) (ws : Lasts T κs a) → ent 𝓤 (says g r ws) (says g (other r) (others ws)))
      → ((r : Res T.signature κs) (ws : Lasts T κs a) → (v.see κs r ≡ v.see κs (other r)) × (ws ≡ others ws) → ⊥)
      → OneAt 𝓤 T κs a c v → ⊥
  many fits differs one =
      let g = one.free.0 in
      let r = (one.some g).0 in
      let ws = (one.some g).1 in
      let fit = (one.some g).2 in
      let same = one.no_second g g (emp 𝓤) r (other r) ws (others ws) fit (via 𝓤 (says g r ws) fit (fits g r ws)) in
      ∥∥₁_elim (same.apply 𝓤.one tt) ⊥_prop (λ t. differs r ws t.0)

-- ---- a part, elsewhere
abbrev moved : {X : Type 0} → Bor X → Bor X
moved x = record { ref_ptr = (x.ref_ptr.0 + 1, x.ref_ptr.1); now = x.now }

not_moved : {X : Type 0} (x : Bor X) → x ≡ moved x → ⊥
not_moved x p = let h : x.ref_ptr.0 ≡ x.ref_ptr.0 + 1 = ap (λ y. y.ref_ptr.0) p in omega (arith, h)

-- ---- one more entry
not_longer : (es : List Entry) → es ≡ none ∷ es → ⊥
not_longer es p = let h : length es ≡ suc (length es) = ap length p in omega (arith, h)

module _ {M : Type 1} {𝓤 : Ura M} (𝓛 : Logic 𝓤) (mem : Memory → SProp 𝓤) (run : Routine → Fun 𝓤) where
  pub run_elsewhere : (κs : Lives fields.run.ended) (a : Args fields.run.signature κs)
      → OneAt 𝓤 fields.run.ended κs a (fields.run.clauses 𝓛 mem run κs a) whole → ⊥
  run_elsewhere κs a =
      many 𝓤 fields.run.ended κs a (fields.run.clauses 𝓛 mem run κs a) whole moved (λ ws. ws)
      (λ g r ws. id⊢ 𝓤 _) (λ r ws e. not_moved r e.0)

  pub rest_elsewhere : (κs : Lives fields.rest.ended) (a : Args fields.rest.signature κs)
      → OneAt 𝓤 fields.rest.ended κs a (fields.rest.clauses 𝓛 mem run κs a) whole → ⊥
  rest_elsewhere κs a =
      many 𝓤 fields.rest.ended κs a (fields.rest.clauses 𝓛 mem run κs a) whole moved (λ ws. ws)
      (λ g r ws. id⊢ 𝓤 _) (λ r ws e. not_moved r e.0)

  pub written_elsewhere : (κs : Lives fields.written.ended) (a : Args fields.written.signature κs)
      → OneAt 𝓤 fields.written.ended κs a (fields.written.clauses 𝓛 mem run κs a) whole → ⊥
  written_elsewhere κs a =
      many 𝓤 fields.written.ended κs a (fields.written.clauses 𝓛 mem run κs a) whole moved (λ ws. ws)
      (λ g r ws. id⊢ 𝓤 _) (λ r ws e. not_moved r e.0)

  pub newest_slot_elsewhere : (κs : Lives prefix.newest_slot.ended) (a : Args prefix.newest_slot.signature κs)
      → OneAt 𝓤 prefix.newest_slot.ended κs a (prefix.newest_slot.clauses 𝓛 mem run κs a) whole → ⊥
  newest_slot_elsewhere κs a =
      many 𝓤 prefix.newest_slot.ended κs a (prefix.newest_slot.clauses 𝓛 mem run κs a) whole moved (λ ws. ws)
      (λ g r ws. id⊢ 𝓤 _) (λ r ws e. not_moved r e.0)

  pub frame_of_elsewhere : (κs : Lives journal.frame_of.ended) (a : Args journal.frame_of.signature κs)
      → OneAt 𝓤 journal.frame_of.ended κs a (journal.frame_of.clauses 𝓛 mem run κs a) whole → ⊥
  frame_of_elsewhere κs a =
      many 𝓤 journal.frame_of.ended κs a (journal.frame_of.clauses 𝓛 mem run κs a) whole moved (λ ws. ws)
      (λ g r ws. id⊢ 𝓤 _) (λ r ws e. not_moved r e.0)

  -- `insert` with its first clause alone
  abbrev inserting : Clauses 𝓤 index.insert.ended
  inserting κs a = record {
    ghost = Unit {0};
    requires = λ g. emp 𝓤;
    ensures = λ g r e.
        index.insert.ensures-value 𝓛 κs mem run a.0 a.1.0 a.1.1.0 a.1.1.1.0
        (record { entry = a.0; exit = e.0 }) (record { entry = a.1.0; exit = e.1.0 })
        (record { entry = a.1.1.0; exit = e.1.1.0 }) (record { entry = a.1.1.1.0; exit = e.1.1.1.0 }) r;
  }

  pub insert_answer : (κs : Lives index.insert.ended) (a : Args index.insert.signature κs)
      → OneAt 𝓤 index.insert.ended κs a (inserting κs a) whole → ⊥
  insert_answer κs a =
      many 𝓤 index.insert.ended κs a (inserting κs a) whole (λ r. r) (λ ws. (none ∷ ws.0, ws.1)) (λ g r ws. id⊢ 𝓤 _)
      (λ r ws e. not_longer ws.0 (ap (λ us. us.0) e.1))

  -- `scan` with its first clause alone
  abbrev scanning : Clauses 𝓤 journal.scan.ended
  scanning κs a = record {
    ghost = Unit {0};
    requires = λ g. emp 𝓤;
    ensures = λ g r e.
        journal.scan.ensures-value 𝓛 κs mem run a.0 a.1.0 a.1.1.0 a.1.1.1.0
        (record { entry = a.0; exit = e.0 }) (record { entry = a.1.0; exit = e.1.0 })
        (record { entry = a.1.1.0; exit = e.1.1.0 }) (record { entry = a.1.1.1.0; exit = e.1.1.1.0 }) r;
  }

  pub scan_answer : (κs : Lives journal.scan.ended) (a : Args journal.scan.signature κs)
      → OneAt 𝓤 journal.scan.ended κs a (scanning κs a) whole → ⊥
  scan_answer κs a =
      many 𝓤 journal.scan.ended κs a (scanning κs a) whole (λ r. r) (λ ws. (tt, (tt, (tt, (none ∷ ws.1.1.1.0, tt))))) (λ g r ws. id⊢ 𝓤 _)
      (λ r ws e. not_longer ws.1.1.1.0 (ap (λ us. us.1.1.1.0) e.1))
