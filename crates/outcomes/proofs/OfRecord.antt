-- One outcome for each public function of `record`, whole results and whole last values.
-- Assumes nothing.
use mathlib.Core.Path.{refl}
use mathlib.Core.List.{List}
use Prim.Native.Nat.{ℕ}
use Rattle.record.specs.contracts as records
use Rattle.record.specs.Write.{write_answer, write_out}
use Rattle.outcomes.specs.OneOutcome.{OneOutcome, whole}
use Rattle.outcomes.proofs.Equations.{answers, answers_and_leaves, value, lends}

pub is_good : {M : Type 1} → OneOutcome M records.is_good.ended (λ 𝓤. records.is_good.clauses) (λ 𝓤. records.is_good.spec) whole
is_good = answers value _ (λ κs a. (tt, tt)) (λ κs a ws. refl)

pub encode_frame_record : {M : Type 1}
    → OneOutcome M records.encode_frame_record.ended (λ 𝓤. records.encode_frame_record.clauses) (λ 𝓤. records.encode_frame_record.spec) whole
encode_frame_record =
    answers_and_leaves value
    (lends {T = records.encode_frame_record.ended} {X = λ κs. List ℕ} (λ κs e. e.0.now) (λ κs a x. (x, (tt, (tt, (tt, (tt, (tt, tt))))))) (λ κs a x. refl) (λ κs a ws. refl))
    (λ κs a. write_answer a.0.now a.1.0 a.1.1.0 a.1.1.1.0 a.1.1.1.1.0.now a.1.1.1.1.1.0)
    (λ κs a. write_out a.0.now a.1.0 a.1.1.0 a.1.1.1.0 a.1.1.1.1.0.now a.1.1.1.1.1.0)

pub seal_frame_record : {M : Type 1}
    → OneOutcome M records.seal_frame_record.ended (λ 𝓤. records.seal_frame_record.clauses) (λ 𝓤. records.seal_frame_record.spec) whole
seal_frame_record = answers_and_leaves value (lends {T = records.seal_frame_record.ended} {X = λ κs. List ℕ} (λ κs e. e.0.now) (λ κs a x. (x, (tt, tt))) (λ κs a x. refl) (λ κs a ws. refl)) _ _

pub decode_body : {M : Type 1} → OneOutcome M records.decode_body.ended (λ 𝓤. records.decode_body.clauses) (λ 𝓤. records.decode_body.spec) whole
decode_body = answers value _ (λ κs a. (tt, tt)) (λ κs a ws. refl)

pub seen_at : {M : Type 1} → OneOutcome M records.seen_at.ended (λ 𝓤. records.seen_at.clauses) (λ 𝓤. records.seen_at.spec) whole
seen_at = answers value _ (λ κs a. (tt, (tt, (tt, tt)))) (λ κs a ws. refl)
