-- A loss over a chain: a written journal meets it at every place of a loss; and where it is met at a place, it is met at the last place.
-- Assumes nothing.
use mathlib.Core.Path.{◌≡◌, ap, subst}
use mathlib.Core.List.{List, ◌++◌}
use Prim.Native.Nat.{ℕ, ◌≤◌}
use native.Mathlib.Omega.{arith}
use native.Mathlib.Nat.{le_refl}
use lib.ListN.{length, length-drop}
use Rattle.prefix.specs.Prefix.{prefix_length}
use Rattle.record.specs.declared.Record.{Record}
use Rattle.index.specs.Entries.{bytes_of}
use Rattle.index.proofs.Filing.{bytes-append}
use Rattle.journal.specs.Walk.{Chain, end_of}
use Rattle.journal.specs.Demand3.{behind_prefix}
use Rattle.journal.specs.Written.{Written}
use Rattle.journal.proofs.Chains.{chain_end, chain_within}
use Rattle.promises.specs.LossOfChain.{LossOfChain}
use Rattle.promises.specs.Shortening.{whole_in}
use Rattle.promises.specs.Lost.{LossAt, last_place}
use Rattle.promises.proofs.LastPlace.{not_before, not_past}
use Rattle.promises.proofs.WholeRecords.{first_whole, whole_more, ends_later}

module _ (limit room : ℕ) (s : List ℕ) (rs : List Record) (k m : ℕ) where
  pub no_longer : LossOfChain limit room s rs k m → m ≤ length s
  no_longer x =
      let w = chain_within limit (behind_prefix s) (le_refl prefix_length) x.chain in
      let e = chain_end limit (behind_prefix s) x.chain in
      let h = x.reached in
      omega (arith, length-drop prefix_length s, x.front.prefix_whole)

  -- the records that lasted have those in front that are whole at the place
  pub lasting-more : LossOfChain limit room s rs k m → (more : List Record) × (whole_in (last_place k m s) rs ≡ whole_in k rs ++ more)
  lasting-more x =
      whole_more limit k (behind_prefix s) (last_place k m s) x.chain x.not_front (not_before k m s x.place_inside (no_longer x))

  -- the last place
  pub at_last : LossOfChain limit room s rs k m → LossOfChain limit room s rs (last_place k m s) m
  at_last x =
      let y = lasting-more x in
      let a = not_before k m s x.place_inside (no_longer x) in
      record {
        front = x.front;
        length64 = x.length64;
        slot_generations = x.slot_generations;
        record_generations = x.record_generations;
        index_room = x.index_room;
        reach = x.reach;
        chain = x.chain;
        not_front = omega (arith, x.not_front);
        place_inside = not_past k m s x.place_inside (no_longer x);
        reached = x.reached;
        past_durable = omega (arith, x.past_durable, ends_later (whole_in k rs) y.0, ap end_of y.1);
      }

  -- a written journal, at a place where no durable record is lost
  pub of_written : Written limit room s rs → LossAt s k m → LossOfChain limit room s rs k m
  unfolding end_of
  of_written w x =
      let c : Chain limit (behind_prefix s) prefix_length (w.durable ++ w.later) (length s) =
      subst (λ (v : List Record). Chain limit (behind_prefix s) prefix_length v (length s)) w.in_two w.sound_alone
      in
      let y = first_whole limit k (behind_prefix s) w.durable w.later c (omega (arith, w.boundary, x.not_durable)) in
      record {
        front = w.front;
        length64 = w.length64;
        slot_generations = w.slot_generations;
        record_generations = w.record_generations;
        index_room = w.index_room;
        reach = length s;
        chain = w.sound_alone;
        not_front = x.not_front;
        place_inside = x.place_inside;
        reached = x.no_longer;
        past_durable = omega (arith, w.boundary, ap (λ (v : List Record). bytes_of (whole_in k v)) w.in_two, ap bytes_of y, bytes-append w.durable (whole_in k w.later));
      }
