-- One outcome for each public function of `journal`, whole results and whole last values; of the frame that is handed back, its bytes.
-- The entries that are lent are compared whole, also those that are not in use.
-- Assumes nothing.
use mathlib.Core.Path.{refl}
use mathlib.Core.List.{List}
use Rattle.index.specs.declared.Entry.{Entry}
use Rattle.journal.specs.contracts as journal
use Rattle.outcomes.specs.OneOutcome.{OneOutcome, whole, content}
use Rattle.outcomes.proofs.Equations.{answers, answers_and_leaves, value, part, lends}

pub scan : {M : Type 1} → OneOutcome M journal.scan.ended (λ 𝓤. journal.scan.clauses) (λ 𝓤. journal.scan.spec) whole
scan = answers_and_leaves value (lends {T = journal.scan.ended} {X = λ κs. List Entry} (λ κs e. e.1.1.1.0.now) (λ κs a x. (tt, (tt, (tt, (x, tt))))) (λ κs a x. refl) (λ κs a ws. refl)) _ _

pub reread : {M : Type 1} → OneOutcome M journal.reread.ended (λ 𝓤. journal.reread.clauses) (λ 𝓤. journal.reread.spec) whole
reread = answers value _ (λ κs a. (tt, (tt, (tt, tt)))) (λ κs a ws. refl)

pub frame_of : {M : Type 1} → OneOutcome M journal.frame_of.ended (λ 𝓤. journal.frame_of.clauses) (λ 𝓤. journal.frame_of.spec) (content (λ κs r. r))
frame_of = answers (part (λ κs r. r) (λ κs x. x) (λ κs x. refl)) _ (λ κs a. (tt, (tt, tt))) (λ κs a ws. refl)

pub kind : {M : Type 1} → OneOutcome M journal.Cut.kind.ended (λ 𝓤. journal.Cut.kind.clauses) (λ 𝓤. journal.Cut.kind.spec) whole
kind = answers value _ (λ κs a. (tt, tt)) (λ κs a ws. refl)

pub dropped : {M : Type 1} → OneOutcome M journal.Cut.dropped.ended (λ 𝓤. journal.Cut.dropped.clauses) (λ 𝓤. journal.Cut.dropped.spec) whole
dropped = answers value _ (λ κs a. (tt, tt)) (λ κs a ws. refl)
