-- A reader that refuses everything is shut out by demand 3: whoever opens exactly the journals with a permitted end opens one.
-- Assumes nothing.
use Rattle.std.specs.Prelude.{ℕ, zero, suc, ◌≤◌, ◌≡◌, refl, Bool, true, false, ◌&&◌, List, [], ◌∷◌, ◌↔◌, length, ltb, Result, Ok, Err, IsOk}
use Rattle.std.proofs.Common.{arith, ltb-true}
use Rattle.fields.specs.Fields.{max64}
use Rattle.refusals.specs.declared.Refusal.{Refusal}
use Rattle.refusals.specs.Refusals.{refusal}
use Rattle.journal.specs.declared.Rule.{Rule}
use Rattle.journal.specs.declared.Rule.TheVariants.{Tail}
use Rattle.journal.specs.declared.answers.Scan.{Scan}
use Rattle.journal.specs.Scan.{scan_of}
use Rattle.journal.specs.Demand3.{Premises, EndsAt}
use Rattle.journal.proofs.Opens.{ok_value, demand3}
use Rattle.journal.proofs.PremisesMet.{Bytes, premises_met, permitted_end}
use Rattle.edges.specs.Samples.{prefix_laid, at12288, scan}

-- a reader: what it answers to a body limit, a rule, the room of the index and a journal
abbrev pub Reader : Type 0
Reader = (limit : ℕ) → Rule → (room : ℕ) → List ℕ → Result Scan Refusal

-- demand 3, said of any reader: under the premises it opens a journal exactly if the journal has a permitted end
abbrev pub Demand3Of : Reader → Type 0
Demand3Of scan =
    (limit N room : ℕ) (s : List ℕ) → Premises limit room s → IsOk (scan limit (Tail N) room s) ↔ ((e : ℕ) × EndsAt limit N s e)

-- it opens no journal under Tail
abbrev pub RefusesAll : Reader → Type 0
RefusesAll scan = (limit N room : ℕ) (s : List ℕ) → IsOk (scan limit (Tail N) room s) → ⊥

-- every element of a list is a byte, as a test
unfoldable all_bytes : List ℕ → Bool
all_bytes [] = true
all_bytes (b ∷ bs) = ltb b 256 && all_bytes bs

and_first : (a b : Bool) → (a && b) ≡ true → a ≡ true
and_first true b e = refl
and_first false b e = e

and_second : (a b : Bool) → (a && b) ≡ true → b ≡ true
and_second true b e = e
and_second false b e = absurd (let z : ◌≡◌ {A = ℕ} 0 1 = cc in omega arith)

bytes_of : (s : List ℕ) → all_bytes s ≡ true → Bytes s
unfolding all_bytes
bytes_of [] e i = omega arith
bytes_of (b ∷ bs) e zero = ltb-true b 256 (and_first (ltb b 256) (all_bytes bs) e)
bytes_of (b ∷ bs) e (suc i) = bytes_of bs (and_second (ltb b 256) (all_bytes bs) e) i

-- the smallest journal: a prefix with B = 12,288 and no records
smallest : List ℕ
smallest = at12288

-- the scan opens it, so that the premises hold of it and it has a permitted end
smallest_small : length smallest ≤ max64
unfolding smallest prefix_laid
smallest_small = omega arith

smallest_bytes : Bytes smallest
unfolding smallest prefix_laid all_bytes
smallest_bytes = bytes_of smallest refl

smallest_opens : IsOk (scan_of 100 (Tail 1) 0 smallest)
unfolding smallest prefix_laid scan
smallest_opens = refl

smallest_scan : (x : Scan) × (scan_of 100 (Tail 1) 0 smallest ≡ Ok x)
smallest_scan = ok_value (scan_of 100 (Tail 1) 0 smallest) smallest_opens

smallest_premises : Premises 100 0 smallest
smallest_premises = premises_met 100 1 0 smallest smallest_small smallest_bytes smallest_scan.0 smallest_scan.1

smallest_ends : (e : ℕ) × EndsAt 100 1 smallest e
smallest_ends = permitted_end 100 1 0 smallest smallest_small smallest_bytes smallest_scan.0 smallest_scan.1

-- a reader that demand 3 holds of doesn't refuse everything
pub refuser_shut_out : (scan : Reader) → Demand3Of scan → RefusesAll scan → ⊥
refuser_shut_out scan holds refuses = refuses 100 1 0 smallest ((holds 100 1 0 smallest smallest_premises).1 smallest_ends)

-- by name: the reader that answers everything with the same refusal
pub constant_refuser_shut_out : (number place : ℕ) → Demand3Of (λ limit rule room s. Err (refusal number place)) → ⊥
constant_refuser_shut_out number place holds =
    refuser_shut_out (λ limit rule room s. Err (refusal number place)) holds (λ limit N room s e. let z : ◌≡◌ {A = ℕ} 0 1 = cc in absurd (omega arith))

-- and the demand can be met: the scan meets it
pub scan_meets_it : Demand3Of scan_of
scan_meets_it limit N room s premises = (demand3 limit N room s premises).exactly
