-- Bytes put in place of others: what was put is read back, and nothing else changes.
-- Assumes nothing.
use mathlib.Core.Path.{◌≡◌, refl, sym, ap, ap₂, ◌∙◌}
use mathlib.Core.List.{List, [], ◌∷◌, ◌++◌, append_assoc, append-nil}
use Prim.Native.Nat.{ℕ, zero, suc, ◌+◌, ◌*◌, ◌-◌, ◌%◌, ◌^◌, ◌≤◌, ◌<◌}
use native.Mathlib.Nat.{add-zero, add-suc, suc-add, zero-add, add_assoc}
use native.Mathlib.Omega.{arith}
use native.Mathlib.Nat.{mod-eq_of_lt}
use borrow.Rule.Slice.PartMut.{put_mid}
use lib.ListN.{length, get_or, take, drop, set, length-append, drop_of_length-le, get_or-append}
use lib.Seq.{paste, take-length, sets, sets-eq, length-sets, take_at, drop_at, take-take, take-add, take-append-le, drop-drop, length-take-le, get_or-take, get_or-drop, get_or-append-add}
use Rattle.fields.specs.Fields.{le, le_bytes, part, put}
use Rattle.fields.proofs.Back.{le-bytes}
use Rattle.fields.proofs.Widths.{le_bytes-length}

-- stores one after the other put the bytes
pub sets_put : (v s : List ℕ) (p : ℕ) → p + length v ≤ length s → sets s p v ≡ put v s p
unfolding put
sets_put v s p h = sets-eq v s p h

-- what a copy, byte by byte, leaves
pub paste_put : (v s : List ℕ) (p : ℕ) → paste s p v (length v) ≡ put v s p
unfolding put
paste_put v s p = ap (λ (l : List ℕ). take p s ++ l ++ drop (p + length v) s) (take-length v)

-- and what a write to a part leaves
pub mid_put : (p n : ℕ) (s v : List ℕ) → n ≡ length v → put_mid p n s v ≡ put v s p
unfolding put
mid_put p n s v e = rw (e, drop-drop) (sym (append_assoc (take p s) v (drop (p + length v) s)))

pub put-length : (v s : List ℕ) (p : ℕ) → p + length v ≤ length s → length (put v s p) ≡ length s
put-length v s p h = ap length (sym (sets_put v s p h)) ∙ length-sets s p v

-- ---- nothing outside changes

pub put_before : (v s : List ℕ) (p k : ℕ) → p ≤ length s → k < p → get_or (put v s p) k 0 ≡ get_or s k 0
unfolding put
put_before v s p k h l =
    rw append_assoc
    (get_or-append (take p s) (v ++ drop (p + length v) s) 0 k (omega (arith, length-take-le p s h)) ∙ get_or-take p s k 0 l)

pub put-behind : (v s : List ℕ) (p k : ℕ) → p ≤ length s → p + length v ≤ k → get_or (put v s p) k 0 ≡ get_or s k 0
unfolding put
put-behind v s p k h l =
    let n = length v in
    let front : List ℕ = take p s ++ v in
    let size : length front ≡ p + n = length-append (take p s) v ∙ ap (λ (m : ℕ). m + n) (length-take-le p s h) in
    let there : length front + (k - (p + n)) ≡ k = omega arith in
    let back : p + n + (k - (p + n)) ≡ k = omega arith in
    ap (λ (m : ℕ). get_or (front ++ drop (p + n) s) m 0) (sym there)
    ∙ get_or-append-add front (drop (p + n) s) (k - (p + n)) 0
    ∙ get_or-drop (p + n) s (k - (p + n)) 0
    ∙ ap (λ (m : ℕ). get_or s m 0) back

-- a field that stands before what was put, or behind it
pub le_before : (n : ℕ) (v s : List ℕ) (p q : ℕ) → p ≤ length s → q + n ≤ p → le n (put v s p) q ≡ le n s q
unfolding le
le_before zero v s p q h w = refl
le_before (suc n) v s p q h w = ap₂ (λ (b r : ℕ). b + 256 * r) (put_before v s p q h (omega arith)) (le_before n v s p (suc q) h (omega arith))

pub le-behind : (n : ℕ) (v s : List ℕ) (p q : ℕ) → p ≤ length s → p + length v ≤ q → le n (put v s p) q ≡ le n s q
unfolding le
le-behind zero v s p q h w = refl
le-behind (suc n) v s p q h w = ap₂ (λ (b r : ℕ). b + 256 * r) (put-behind v s p q h w) (le-behind n v s p (suc q) h (omega arith))

-- ---- what was put is read back

pub put-part : (v s : List ℕ) (p : ℕ) → p ≤ length s → part (length v) (put v s p) p ≡ v
unfolding put
put-part v s p h =
    rw append_assoc
    (ap (take (length v)) (drop_at (take p s) (v ++ drop (p + length v) s) p (length-take-le p s h)) ∙ take_at v (drop (p + length v) s) (length v) refl)

-- a field's bytes are those of the part that it stands in
pub le-within : (m n : ℕ) (s : List ℕ) (p k : ℕ) → k + m ≤ n → le m (part n s p) k ≡ le m s (p + k)
unfolding le
le-within zero n s p k w = refl
le-within (suc m) n s p k w =
    ap₂ (λ (b r : ℕ). b + 256 * r)
    (get_or-take n (drop p s) k 0 (omega arith) ∙ get_or-drop p s k 0)
    (le-within m n s p (suc k) (omega arith) ∙ ap (le m s) (add-suc p k))

pub le-part : (n : ℕ) (s : List ℕ) (p : ℕ) → le n (part n s p) 0 ≡ le n s p
le-part n s p = le-within n n s p 0 (omega arith) ∙ ap (le n s) (add-zero p)

pub put-le : (n x : ℕ) (s : List ℕ) (p : ℕ) → p ≤ length s → le n (put (le_bytes n x) s p) p ≡ x % 256 ^ n
put-le n x s p h =
    let there : part n (put (le_bytes n x) s p) p ≡ le_bytes n x =
    ap (λ (m : ℕ). part m (put (le_bytes n x) s p) p) (sym (le_bytes-length n x)) ∙ put-part (le_bytes n x) s p h in
    sym (le-part n (put (le_bytes n x) s p) p) ∙ ap (λ (l : List ℕ). le n l 0) there ∙ le-bytes n x

pub sets_append : (a b l : List ℕ) (i : ℕ) → sets l i (a ++ b) ≡ sets (sets l i a) (i + length a) b
sets_append [] b l i = rw add-zero
sets_append (x ∷ a) b l i = sets_append a b (set l i x) (suc i) ∙ ap (λ (k : ℕ). sets (sets l i (x ∷ a)) k b) (suc-add i (length a) ∙ sym (add-suc i (length a)))

-- two runs, one behind the other, are one
pub put-put : (a b s : List ℕ) (p : ℕ) → p + length a + length b ≤ length s → put b (put a s p) (p + length a) ≡ put (a ++ b) s p
put-put a b s p h =
    let one : p + length a ≤ length s = omega arith in
    let two : p + length a + length b ≤ length (sets s p a) = rw length-sets h in
    let both : p + length (a ++ b) ≤ length s = rw length-append (omega arith) in
    ap (λ (l : List ℕ). put b l (p + length a)) (sym (sets_put a s p one))
    ∙ sym (sets_put b (sets s p a) (p + length a) two)
    ∙ sym (sets_append a b s p)
    ∙ sets_put (a ++ b) s p both

-- bytes behind those that were put
pub put_next : (a b s l t : List ℕ) (p k n : ℕ) → p + length a ≡ k → length b ≡ n → k + n ≤ length s → l ≡ put a s p → t ≡ put b l k → t ≡ put (a ++ b) s p
put_next a b s l t p k n ea eb h e f =
    let room : p + length a + length b ≤ length s = omega arith in
    f ∙ ap (λ (y : List ℕ). put b y k) e ∙ ap (put b (put a s p)) (sym ea) ∙ put-put a b s p room

-- bytes in place of all that there are
pub put_whole : (v s : List ℕ) → length s ≤ length v → put v s 0 ≡ v
unfolding put
put_whole v s h = rw (zero-add, drop_of_length-le s h) (append-nil v)

-- ---- the parts before and behind, and bytes put twice

pub put-take : (v s : List ℕ) (p n : ℕ) → p ≤ length s → n ≤ p → take n (put v s p) ≡ take n s
unfolding put
put-take v s p n h k =
    rw append_assoc (take-append-le n (take p s) (v ++ drop (p + length v) s) (omega (arith, length-take-le p s h)) ∙ take-take n p s k)

pub put-drop : (v s : List ℕ) (n i : ℕ) → n ≤ length s → drop n (put v s (n + i)) ≡ put v (drop n s) i
unfolding put
put-drop v s n i h =
    let rest : drop (n + i + length v) s ≡ drop (i + length v) (drop n s) = rw add_assoc (sym (drop-drop (i + length v) n s)) in
    rw (take-add n i s, rest, append_assoc (take n s), append_assoc (take n s)) (drop_at (take n s) (put v (drop n s) i) n (length-take-le n s h))

pub put_twice : (a b s : List ℕ) (p : ℕ) → length a ≡ length b → p + length b ≤ length s → put b (put a s p) p ≡ put b s p
unfolding put
put_twice a b s p e h =
    let front : take p (put a s p) ≡ take p s = put-take a s p p (omega arith) (omega arith) in
    let size : length (take p s ++ a) ≡ p + length b = omega (arith, length-append (take p s) a, length-take-le p s (omega arith)) in
    let back : drop (p + length b) (put a s p) ≡ drop (p + length b) s =
    drop_at (take p s ++ a) (drop (p + length a) s) (p + length b) size ∙ ap (λ (n : ℕ). drop (p + n) s) e in
    ap₂ (λ (x y : List ℕ). x ++ b ++ y) front back

-- one store puts one byte
pub set-put : (s : List ℕ) (p x : ℕ) → p < length s → set s p x ≡ put (x ∷ []) s p
set-put s p x h = sets_put (x ∷ []) s p (omega arith)

-- and one store of a byte
pub byte_put : (s : List ℕ) (p x : ℕ) → p < length s → x < 256 → set s p x ≡ put (x % 256 ∷ []) s p
byte_put s p x h k = set-put s p x h ∙ ap (λ (b : ℕ). put (b ∷ []) s p) (sym (mod-eq_of_lt k))
