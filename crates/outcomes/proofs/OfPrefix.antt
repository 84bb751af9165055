-- One outcome for each public function of `prefix`.
-- `newest_slot` hands back one of two images that were lent: its contract fixes the bytes, not which of two equal images, so `content` is compared.
-- Assumes nothing.
use mathlib.Core.Path.{refl}
use mathlib.Core.List.{List}
use Prim.Native.Nat.{ℕ}
use Rattle.prefix.specs.contracts as prefix
use Rattle.outcomes.specs.OneOutcome.{OneOutcome, whole, content}
use Rattle.outcomes.proofs.Equations.{answers, answers_and_leaves, value, lends, part}

pub encode_header : {M : Type 1} → OneOutcome M prefix.encode_header.ended (λ 𝓤. prefix.encode_header.clauses) (λ 𝓤. prefix.encode_header.spec) whole
encode_header = answers value _ (λ κs a. (tt, tt)) (λ κs a ws. refl)

pub decode_header : {M : Type 1} → OneOutcome M prefix.decode_header.ended (λ 𝓤. prefix.decode_header.clauses) (λ 𝓤. prefix.decode_header.spec) whole
decode_header = answers value _ (λ κs a. (tt, tt)) (λ κs a ws. refl)

pub encode_slot : {M : Type 1} → OneOutcome M prefix.encode_slot.ended (λ 𝓤. prefix.encode_slot.clauses) (λ 𝓤. prefix.encode_slot.spec) whole
encode_slot = answers value _ (λ κs a. (tt, (tt, (tt, tt)))) (λ κs a ws. refl)

pub decode_slot : {M : Type 1} → OneOutcome M prefix.decode_slot.ended (λ 𝓤. prefix.decode_slot.clauses) (λ 𝓤. prefix.decode_slot.spec) whole
decode_slot = answers value _ (λ κs a. (tt, tt)) (λ κs a ws. refl)

pub find_newest : {M : Type 1} → OneOutcome M prefix.find_newest.ended (λ 𝓤. prefix.find_newest.clauses) (λ 𝓤. prefix.find_newest.spec) whole
find_newest = answers value _ (λ κs a. (tt, (tt, tt))) (λ κs a ws. refl)

pub newest_slot : {M : Type 1} → OneOutcome M prefix.newest_slot.ended (λ 𝓤. prefix.newest_slot.clauses) (λ 𝓤. prefix.newest_slot.spec) (content (λ κs r. r))
newest_slot = answers (part (λ κs r. r) (λ κs x. x) (λ κs x. refl)) _ (λ κs a. (tt, (tt, tt))) (λ κs a ws. refl)

pub fresh_next : {M : Type 1} → OneOutcome M prefix.fresh_next.ended (λ 𝓤. prefix.fresh_next.clauses) (λ 𝓤. prefix.fresh_next.spec) whole
fresh_next = answers value _ (λ κs a. (tt, tt)) (λ κs a ws. refl)

pub fresh_slots : {M : Type 1} → OneOutcome M prefix.fresh_slots.ended (λ 𝓤. prefix.fresh_slots.clauses) (λ 𝓤. prefix.fresh_slots.spec) whole
fresh_slots = answers value _ (λ κs a. (tt, tt)) (λ κs a ws. refl)

pub encode_prefix : {M : Type 1} → OneOutcome M prefix.encode_prefix.ended (λ 𝓤. prefix.encode_prefix.clauses) (λ 𝓤. prefix.encode_prefix.spec) whole
encode_prefix = answers_and_leaves value (lends {T = prefix.encode_prefix.ended} {X = λ κs. List ℕ} (λ κs e. e.0.now) (λ κs a x. (x, (tt, (tt, tt)))) (λ κs a x. refl) (λ κs a ws. refl)) _ _
