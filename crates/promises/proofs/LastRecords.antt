-- The last N records of a chain: how many bytes they have at most, and which records are whole at or past their start.
-- Assumes nothing.
use mathlib.Core.Path.{◌≡◌, sym, ap, subst}
use mathlib.Core.List.{List, [], ◌∷◌, ◌++◌}
use Prim.Native.Nat.{ℕ, ◌+◌, ◌*◌, ◌-◌, ◌≤◌}
use native.Mathlib.Omega.{arith}
use native.Mathlib.Nat.{suc-mul, mul-le-mul_right}
use lib.ListN.{length, take, drop, length-drop, take-append-drop}
use Rattle.prefix.specs.Prefix.{prefix_length}
use Rattle.record.specs.declared.Record.{Record}
use Rattle.record.proofs.SoundBoth.{sound_is, record-body}
use Rattle.index.specs.Entries.{length_of, bytes_of}
use Rattle.index.proofs.Filing.{bytes-append}
use Rattle.journal.specs.Walk.{rest, stands_at, Chain, nothing, next, end_of}
use Rattle.journal.proofs.Chains.{chain_end}
use Rattle.promises.specs.Shortening.{whole_in}
use Rattle.promises.specs.PowerLoss.{last_start}
use Rattle.promises.proofs.WholeRecords.{first_whole}

-- a sound record has 12 bytes and at most the limit
bytes_most : (limit : ℕ) (t : List ℕ) {p f : ℕ} {rs : List Record} → Chain limit t p rs f → bytes_of rs ≤ length rs * (12 + limit)
unfolding bytes_of stands_at
bytes_most limit t nothing = omega arith
bytes_most limit t {p} (next {r} {rs} s c) =
    let i = bytes_most limit t c in
    let a = (record-body limit p (rest t p) r s).0 in
    let b = (sound_is limit p (rest t p) r s).0.small in
    omega (arith, suc-mul (length rs) (12 + limit))

-- the second part of a chain is one
chain_later : (limit : ℕ) (t : List ℕ) {p f : ℕ} (xs ys : List Record) → Chain limit t p (xs ++ ys) f → (q : ℕ) × Chain limit t q ys f
chain_later limit t {p} [] ys c = (p, c)
chain_later limit t {p} (x ∷ xs) ys (next s c) = chain_later limit t {p = p + length_of x} xs ys c

-- the last N records of rs have at most N times 12 bytes and the limit
pub last_most : (limit N : ℕ) (t : List ℕ) {f : ℕ} (rs : List Record) → Chain limit t prefix_length rs f → f ≤ last_start N rs + N * (12 + limit)
unfolding last_start end_of
last_most limit N t {f} rs c =
    let n : ℕ = length rs - N in
    let e : take n rs ++ drop n rs ≡ rs = take-append-drop n rs in
    let d : Chain limit t prefix_length (take n rs ++ drop n rs) f = subst (λ (v : List Record). Chain limit t prefix_length v f) (sym e) c in
    let y = chain_later limit t (take n rs) (drop n rs) d in
    let a = bytes_most limit t y.1 in
    let k : length (drop n rs) ≤ N = omega (arith, length-drop n rs) in
    let z : length (drop n rs) * (12 + limit) ≤ N * (12 + limit) = mul-le-mul_right (12 + limit) k in
    omega (arith, chain_end limit t d, bytes-append (take n rs) (drop n rs))

-- a place at or past their start is past the records before them
pub before_last : (limit N : ℕ) (t : List ℕ) {f : ℕ} (rs : List Record) (k : ℕ) → Chain limit t prefix_length rs f → last_start N rs ≤ k → last_start N rs ≤ end_of (whole_in k rs)
unfolding last_start end_of
before_last limit N t {f} rs k c h =
    let n : ℕ = length rs - N in
    let e : take n rs ++ drop n rs ≡ rs = take-append-drop n rs in
    let d : Chain limit t prefix_length (take n rs ++ drop n rs) f = subst (λ (v : List Record). Chain limit t prefix_length v f) (sym e) c in
    let i = first_whole limit k t (take n rs) (drop n rs) d h in
    omega (arith, ap bytes_of i, ap (λ (v : List Record). bytes_of (whole_in k v)) e, bytes-append (take n rs) (whole_in k (drop n rs)))
