-- One outcome for each public function of `host`, whole results and whole last values.
-- The entries that are lent are compared whole, also those that are not in use, and so are the bytes.
-- Assumes nothing.
use mathlib.Core.Path.{refl}
use mathlib.Core.List.{List}
use Prim.Native.Nat.{ℕ}
use Rattle.index.specs.declared.Entry.{Entry}
use Rattle.host.specs.contracts as host
use Rattle.outcomes.specs.OneOutcome.{OneOutcome, whole}
use Rattle.outcomes.proofs.Equations.{answers, answers_and_leaves, value, lends}

pub bulvreden_scan : {M : Type 1} → OneOutcome M host.bulvreden_scan.ended (λ 𝓤. host.bulvreden_scan.clauses) (λ 𝓤. host.bulvreden_scan.spec) whole
bulvreden_scan =
    answers_and_leaves value
    (lends {T = host.bulvreden_scan.ended} {X = λ κs. List Entry} (λ κs e. e.1.1.1.1.0.now) (λ κs a x. (tt, (tt, (tt, (tt, (x, tt)))))) (λ κs a x. refl) (λ κs a ws. refl)) _ _

pub bulvreden_reread : {M : Type 1} → OneOutcome M host.bulvreden_reread.ended (λ 𝓤. host.bulvreden_reread.clauses) (λ 𝓤. host.bulvreden_reread.spec) whole
bulvreden_reread = answers value _ (λ κs a. (tt, (tt, (tt, tt)))) (λ κs a ws. refl)

pub bulvreden_write : {M : Type 1} → OneOutcome M host.bulvreden_write.ended (λ 𝓤. host.bulvreden_write.clauses) (λ 𝓤. host.bulvreden_write.spec) whole
bulvreden_write = answers_and_leaves value (lends {T = host.bulvreden_write.ended} {X = λ κs. List ℕ} (λ κs e. e.0.now) (λ κs a x. (x, (tt, (tt, (tt, (tt, (tt, (tt, tt)))))))) (λ κs a x. refl) (λ κs a ws. refl)) _ _

pub bulvreden_seal : {M : Type 1} → OneOutcome M host.bulvreden_seal.ended (λ 𝓤. host.bulvreden_seal.clauses) (λ 𝓤. host.bulvreden_seal.spec) whole
bulvreden_seal = answers_and_leaves value (lends {T = host.bulvreden_seal.ended} {X = λ κs. List ℕ} (λ κs e. e.0.now) (λ κs a x. (x, (tt, tt))) (λ κs a x. refl) (λ κs a ws. refl)) _ _

pub bulvreden_fresh_slots : {M : Type 1} → OneOutcome M host.bulvreden_fresh_slots.ended (λ 𝓤. host.bulvreden_fresh_slots.clauses) (λ 𝓤. host.bulvreden_fresh_slots.spec) whole
bulvreden_fresh_slots = answers value _ (λ κs a. (tt, tt)) (λ κs a ws. refl)

pub bulvreden_slot : {M : Type 1} → OneOutcome M host.bulvreden_slot.ended (λ 𝓤. host.bulvreden_slot.clauses) (λ 𝓤. host.bulvreden_slot.spec) whole
bulvreden_slot = answers value _ (λ κs a. (tt, tt)) (λ κs a ws. refl)

pub bulvreden_prefix : {M : Type 1} → OneOutcome M host.bulvreden_prefix.ended (λ 𝓤. host.bulvreden_prefix.clauses) (λ 𝓤. host.bulvreden_prefix.spec) whole
bulvreden_prefix = answers_and_leaves value (lends {T = host.bulvreden_prefix.ended} {X = λ κs. List ℕ} (λ κs e. e.0.now) (λ κs a x. (x, (tt, (tt, tt)))) (λ κs a x. refl) (λ κs a ws. refl)) _ _

pub bulvreden_crc32 : {M : Type 1} → OneOutcome M host.bulvreden_crc32.ended (λ 𝓤. host.bulvreden_crc32.clauses) (λ 𝓤. host.bulvreden_crc32.spec) whole
bulvreden_crc32 = answers value _ (λ κs a. (tt, tt)) (λ κs a ws. refl)

pub bulvreden_crc32_resume : {M : Type 1} → OneOutcome M host.bulvreden_crc32_resume.ended (λ 𝓤. host.bulvreden_crc32_resume.clauses) (λ 𝓤. host.bulvreden_crc32_resume.spec) whole
bulvreden_crc32_resume = answers value _ (λ κs a. (tt, (tt, tt))) (λ κs a ws. refl)
