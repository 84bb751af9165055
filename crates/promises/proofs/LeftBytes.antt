-- The bytes that a loss leaves, as a journal: the front is the one that was written, and the records that lasted lead to their end. Where the first
-- records lead to a place at which none stands, the scan's answer is the one of that place.
-- Assumes nothing.
use mathlib.Core.Path.{◌≡◌, sym, ap, subst, ◌∙◌}
use mathlib.Core.List.{List, ◌++◌, append_assoc}
use mathlib.Core.Logic.{◌⊎◌, inl, inr}
use Prim.Native.Nat.{ℕ, ◌+◌, ◌-◌, ◌≤◌, ◌<◌}
use native.Mathlib.Omega.{arith}
use native.Mathlib.Nat.{le_refl}
use lib.ListN.{length, take, drop, replicate, length-drop}
use lib.Seq.{length-take-le, drop-drop, take_at}
use Rattle.fields.specs.Fields.{max32, max64}
use Rattle.fields.proofs.Zeroed.{zeroed, length-zeroed, drop-zeroed}
use Rattle.prefix.specs.Prefix.{prefix_length, slot_zero, slot_one}
use Rattle.record.specs.declared.Record.{Record}
use Rattle.record.specs.declared.Row.{Row}
use Rattle.std.specs.Prelude.{Ok, Err}
use Rattle.record.specs.Seen.{seen}
use Rattle.index.specs.declared.Entry.{Entry}
use Rattle.index.specs.Entries.{numbers_of, entries_of, overlay}
use Rattle.index.proofs.Filing.{numbers_le}
use Rattle.journal.specs.declared.Rule.TheVariants.{Tail}
use Rattle.journal.specs.declared.Cut.{Cut}
use Rattle.journal.specs.declared.Cut.TheVariants.{None}
use Rattle.journal.specs.Walk.{rest, stands_at, Chain, Reading, end_of}
use Rattle.journal.specs.Walked.{refused_at, stop_at}
use Rattle.journal.specs.Front.{Front, front_of, slot_in}
use Rattle.journal.specs.Counters.{highest}
use Rattle.journal.specs.Scan.{answer_by, filed_in, index_after}
use Rattle.journal.specs.Permitted.{Reason, Complete, Excused, cut_at}
use Rattle.journal.specs.Demand3.{behind_prefix, durable_end, SoundFront, Premises}
use Rattle.journal.proofs.Chains.{chain_found, chain_front}
use Rattle.journal.proofs.Counters.{highest-append}
use Rattle.journal.proofs.FromChains.{end_is, all_filed, all_kept, scanned, behind-front}
use Rattle.journal.proofs.SoundFronts.{zero_same, one_same, front_same, front_passes, front_stays, front_back}
use Rattle.journal.proofs.Opens.{demand3}
use Rattle.promises.specs.LossOfChain.{LossOfChain}
use Rattle.promises.specs.Shortening.{whole_in}
use Rattle.promises.specs.Lost.{lost_to}
use Rattle.promises.specs.PowerLoss.{LeftOpens, LeftRefused}
use Rattle.promises.proofs.WholeRecords.{whole_part}
use Rattle.promises.proofs.LossOfChain.{no_longer}
use Rattle.promises.proofs.Lasted.{Torn, Lasted, lasted, left}

-- a place behind the prefix, counted from the journal's start
pub rest-drop : (s : List ℕ) (p : ℕ) → prefix_length ≤ p → rest (behind_prefix s) p ≡ drop p s
rest-drop s p h =
    let n : prefix_length + (p - prefix_length) ≡ p = omega arith in
    drop-drop (p - prefix_length) prefix_length s ∙ ap (λ (i : ℕ). drop i s) n

pub end_past : (rs : List Record) → prefix_length ≤ end_of rs
unfolding end_of
end_past rs = omega arith

module _ (limit N : ℕ) (lent : List Entry) (s : List ℕ) (rs : List Record) (k m : ℕ) (x : LossOfChain limit (length lent) s rs k m) where
  abbrev bytes : List ℕ
  bytes = lost_to k m s

  l : m ≤ length s
  l = no_longer limit (length lent) s rs k m x

  kl : k ≤ length s
  kl = omega (arith, l, x.place_inside)

  pub small : limit < max32
  small = omega (arith, x.front.limit_taken)

  pub length_is : length bytes ≡ m
  length_is = length-zeroed k (m - k) s kl ∙ (omega (arith, x.place_inside))

  size : length (behind_prefix bytes) ≤ max64
  size = omega (arith, length-drop prefix_length bytes, length_is, x.length64, l)

  -- ---- the front

  first_same : take k bytes ≡ take k s
  first_same = take_at (take k s) (replicate (m - k) 0) k (length-take-le k s kl)

  front_is : front_of bytes ≡ front_of s
  front_is = sym (front_same k bytes x.not_front) ∙ ap front_of first_same ∙ front_same k s x.not_front

  zero_is : slot_zero bytes ≡ slot_zero s
  zero_is = sym (zero_same k bytes x.not_front) ∙ ap slot_zero first_same ∙ zero_same k s x.not_front

  one_is : slot_one bytes ≡ slot_one s
  one_is = sym (one_same k bytes x.not_front) ∙ ap slot_one first_same ∙ one_same k s x.not_front

  front_sound : SoundFront limit bytes
  front_sound =
      front_back k bytes x.not_front limit (omega (arith, length_is, x.place_inside))
      (subst (SoundFront limit) (sym first_same) (front_stays k s x.not_front limit kl x.front))

  pub durable_is : durable_end bytes ≤ end_of (whole_in k rs)
  durable_is = omega (arith, ap (λ (f : Front). (slot_in f).end) front_is, x.past_durable)

  -- ---- the records that lasted

  abbrev e : ℕ
  e = end_of (whole_in k rs)

  st : Lasted limit k m (behind_prefix s) prefix_length rs
  st =
      lasted limit k m (behind_prefix s) x.not_front (omega (arith, length-drop prefix_length s, kl))
      x.chain (le_refl prefix_length) x.not_front x.place_inside x.reached

  chain_there : Chain limit (behind_prefix bytes) prefix_length (whole_in k rs) st.place
  chain_there = let d : behind_prefix bytes ≡ left limit k m (behind_prefix s) = drop-zeroed prefix_length k (m - k) s x.not_front kl in rw d st.chain

  place_is : e ≡ st.place
  place_is = end_is limit (behind_prefix bytes) chain_there

  pub chain_is : Chain limit (behind_prefix bytes) prefix_length (whole_in k rs) e
  chain_is = subst (λ (p : ℕ). Chain limit (behind_prefix bytes) prefix_length (whole_in k rs) p) (sym place_is) chain_there

  pub inside : e ≤ k
  inside = omega (arith, place_is, st.inside)

  -- nothing is left behind them, or a record was torn
  pub then_is : (m ≡ e) ⊎ Torn limit k m (behind_prefix s) rs e
  then_is = subst (λ (p : ℕ). (m ≡ p) ⊎ Torn limit k m (behind_prefix s) rs p) (sym place_is) st.then

  pub stood_is : (y : Torn limit k m (behind_prefix s) rs e) → seen limit e (drop e s) ≡ Ok y.torn
  unfolding stands_at
  stood_is y = rw (rest-drop s e (end_past (whole_in k rs))) at y.stood

  pub rest_is : rest (behind_prefix bytes) e ≡ zeroed (k - e) (m - k) (drop e s)
  rest_is = rest-drop bytes e (end_past (whole_in k rs)) ∙ drop-zeroed e k (m - k) s inside kl

  pub rest-length : (p : ℕ) → prefix_length ≤ p → length (rest (behind_prefix bytes) p) ≡ m - p
  rest-length p h = omega (arith, ap length (rest-drop bytes p h), length-drop p bytes, length_is)

  pub first_lasted : (more : List Record) × (rs ≡ whole_in k rs ++ more)
  first_lasted = whole_part limit k (behind_prefix s) x.chain

  -- ---- a place where no sound record stands

  -- records lead there which are the first ones written
  pub record StopsAt (us : List Record) (p : ℕ) (row : Row) : Type 0 where
    pub chain : Chain limit (behind_prefix bytes) prefix_length us p
    pub first : (more : List Record) × (rs ≡ us ++ more)
    pub stands : stands_at limit (behind_prefix bytes) p ≡ Err row

  module _ {us : List Record} {p : ℕ} {row : Row} (st : StopsAt us p row) where
    -- every chain is a front part of the records written
    first_is : {vs : List Record} {i : ℕ} → Chain limit (behind_prefix bytes) prefix_length vs i → (more : List Record) × (rs ≡ vs ++ more)
    first_is {vs} d =
        let f = chain_front limit (behind_prefix bytes) d in
        let y = chain_found limit (behind_prefix bytes) us p row st.chain st.stands in
        let z : us ≡ vs ++ f.0 = sym (ap (λ (r : Reading). r.records) y) ∙ f.1 in
        (f.0 ++ st.first.0, st.first.1 ∙ ap (λ (u : List Record). u ++ st.first.0) z ∙ append_assoc vs f.0 st.first.0)

    premises : Premises limit (length lent) bytes
    premises =
        record {
          front = front_sound;
          length64 = omega (arith, length_is, x.length64, l);
          slot_generations = rw (zero_is, one_is) x.slot_generations;
          record_generations = λ {rs = vs} d.
              let f = first_is d in
              omega (arith, x.record_generations, ap highest f.1, highest-append vs f.0);
          index_room = λ {rs = vs} d.
              let f = first_is d in
              omega (arith, x.index_room, ap (λ (v : List Record). length (numbers_of v)) f.1, numbers_le vs f.0);
        }

    index_is : index_after limit lent bytes ≡ overlay (entries_of us) lent
    unfolding index_after filed_in
    index_is =
        let filed = all_filed limit (length lent) (behind_prefix bytes) size (premises.index_room st.chain) st.chain in
        rw (front_passes limit bytes front_sound)
        (ap (λ (v : List Record). overlay (entries_of v) lent) (all_kept limit (length lent) (behind_prefix bytes) filed st.chain st.stands))

    -- it is a permitted end
    opens_by : (d : Complete (durable_end bytes) (behind_prefix bytes) p ⊎ Excused limit N (durable_end bytes) (behind_prefix bytes) p) → LeftOpens limit N lent s bytes us (cut_at d)
    opens_by d =
        let o = (demand3 limit N (length lent) bytes premises).whole (record { records = us; chain = st.chain; tail = d }) in
        record { answer = rw front_is at o; index = index_is }

    pub whole_by : durable_end bytes ≤ p → length (rest (behind_prefix bytes) p) ≡ 0 → LeftOpens limit N lent s bytes us None
    whole_by b n = opens_by (inl (record { not_below = b; none_remain = n }))

    pub cut_by : {cut : Cut} → durable_end bytes ≤ p → 0 < length (rest (behind_prefix bytes) p) → Reason limit N (rest (behind_prefix bytes) p) row cut
        → LeftOpens limit N lent s bytes us cut
    cut_by {cut} b some reason =
        opens_by (inr (record { row = row; cut = cut; not_below = b; some_remain = some; first_row = st.stands; reason = reason }))

    -- it is none
    pub refused_by : (n : ℕ) → stop_at limit (Tail N) (durable_end bytes) (behind_prefix bytes) p row ≡ refused_at n p → LeftRefused limit N lent bytes us n p
    unfolding answer_by
    refused_by n q =
        let filed = all_filed limit (length lent) (behind_prefix bytes) size (premises.index_room st.chain) st.chain in
        record {
          answer = behind-front limit (Tail N) (length lent) bytes (front_passes limit bytes front_sound)
              ∙ scanned limit (length lent) (behind_prefix bytes) filed st.chain st.stands (Tail N) (front_of bytes)
              ∙ ap (answer_by (Tail N) (front_of bytes) us) q;
          index = index_is;
        }
