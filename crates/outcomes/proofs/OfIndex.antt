-- One outcome for each public function of `index`, whole results and whole last values.
-- The entries that are lent are compared whole, also those that are not in use.
-- Assumes nothing.
use mathlib.Core.Path.{refl}
use mathlib.Core.List.{List}
use Rattle.index.specs.declared.Entry.{Entry}
use Rattle.index.specs.contracts as index
use Rattle.outcomes.specs.OneOutcome.{OneOutcome, whole}
use Rattle.outcomes.proofs.Equations.{answers, leaves, answers_and_leaves, value, lends}

pub entry_at : {M : Type 1} → OneOutcome M index.entry_at.ended (λ 𝓤. index.entry_at.clauses) (λ 𝓤. index.entry_at.spec) whole
entry_at = answers value _ (λ κs a. (tt, (tt, tt))) (λ κs a ws. refl)

pub put_at : {M : Type 1} → OneOutcome M index.put_at.ended (λ 𝓤. index.put_at.clauses) (λ 𝓤. index.put_at.spec) whole
put_at = leaves (lends {T = index.put_at.ended} {X = λ κs. List Entry} (λ κs e. e.0.now) (λ κs a x. (x, (tt, (tt, tt)))) (λ κs a x. refl) (λ κs a ws. refl)) _ (λ κs. tt) (λ κs r. refl)

pub lookup : {M : Type 1} → OneOutcome M index.lookup.ended (λ 𝓤. index.lookup.clauses) (λ 𝓤. index.lookup.spec) whole
lookup = answers value _ (λ κs a. (tt, (tt, (tt, tt)))) (λ κs a ws. refl)

pub insert : {M : Type 1} → OneOutcome M index.insert.ended (λ 𝓤. index.insert.clauses) (λ 𝓤. index.insert.spec) whole
insert = answers_and_leaves value (lends {T = index.insert.ended} {X = λ κs. List Entry} (λ κs e. e.0.now) (λ κs a x. (x, (tt, (tt, (tt, tt))))) (λ κs a x. refl) (λ κs a ws. refl)) _ _
