-- A loss over a chain: what the laws of power loss ask of a journal, and no more. For a layer that appends, whose journal meets it in the middle of a
-- step.
-- Assumes nothing.
use Rattle.std.specs.Prelude.{ℕ, ◌≤◌, ◌<◌, List, length}
use Rattle.fields.specs.Fields.{max64}
use Rattle.prefix.specs.Prefix.{prefix_length, slot_zero, slot_one}
use Rattle.prefix.specs.Slots.{slots_generation}
use Rattle.record.specs.declared.Record.{Record}
use Rattle.index.specs.Entries.{numbers_of}
use Rattle.journal.specs.Walk.{Chain, end_of}
use Rattle.journal.specs.Counters.{highest}
use Rattle.journal.specs.Demand3.{behind_prefix, durable_end, SoundFront}
use Rattle.promises.specs.Shortening.{whole_in}

-- behind a sound front, sound records rs lead from 12,288 at least to the new length m; those that are whole at the place k end at B or past it. B may
-- stand inside a record, or below 12,288, and what stands behind the chain doesn't matter
pub record LossOfChain (limit room : ℕ) (s : List ℕ) (rs : List Record) (k m : ℕ) : Type 0 where
  pub front : SoundFront limit s
  pub length64 : length s ≤ max64
  pub slot_generations : slots_generation (slot_zero s) (slot_one s) < max64
  pub record_generations : highest rs < max64
  pub index_room : length (numbers_of rs) ≤ room
  pub reach : ℕ
  pub chain : Chain limit (behind_prefix s) prefix_length rs reach
  pub not_front : prefix_length ≤ k
  pub place_inside : k ≤ m
  pub reached : m ≤ reach
  pub past_durable : durable_end s ≤ end_of (whole_in k rs)
