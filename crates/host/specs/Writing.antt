-- What a host hands in for writing, as the layers below take it, and what it gets.
-- Assumes nothing.
use Rattle.std.specs.Prelude.{ℕ, Bool, ◌||◌, List, [], ◌∷◌, leb, ltb, eqb, get_or, replicate, Result, Ok, Err, ⊤}
use Rattle.fields.specs.Fields.{max32, pick}
use Rattle.prefix.specs.Slots.{slot_bytes, fresh_next, fresh_slots}
use Rattle.refusals.specs.Refusals.{number_in, refused_for}
use Rattle.refusals.specs.declared.Refusal.{Refusal}
use Rattle.prefix.specs.declared.Header.{Header}
use Rattle.prefix.specs.declared.Slot.{Slot}
use Rattle.record.specs.Body.{plain, counter}
use Rattle.record.specs.Write.{write_answer, write_out}
use Rattle.record.specs.declared.Kind.{Kind}
use Rattle.record.specs.declared.Kind.TheVariants.{Plain, Counter}
use Rattle.record.specs.declared.MsgType.{MsgType}
use Rattle.refusals.specs.declared.Reason.TheVariants.{Unknown}
use Rattle.host.specs.declared.Code.{Code}
use Rattle.host.specs.declared.Counters.{Counters}
use Rattle.host.specs.declared.Fresh.{Fresh}
use Rattle.host.specs.declared.Image.{Image}
use Rattle.host.specs.declared.Made.{Made}
use Rattle.host.specs.declared.Sealed as seals
use Rattle.host.specs.declared.Slots.{Slots}
use Rattle.host.specs.declared.Wrote.{Wrote}

-- ---- a record

-- its kind: 1 plain, 5 with the next sender; there is no other
unfoldable pub is_record_kind : (kind : ℕ) → Bool
is_record_kind k = eqb k plain || eqb k counter

unfoldable pub kind_by : (kind sender : ℕ) → Kind
kind_by k sender = pick (eqb k counter) (Counter sender) Plain

-- the letters of its code: more than eight count as none, so that the code is refused
unfoldable pub letters_by : ℕ → ℕ
letters_by n = pick (ltb 8 n) 0 n

unfoldable pub code_by : Code → MsgType
code_by c = record { bytes = c.bytes; len = letters_by c.letters }

-- what writing answers, as numbers
abbrev pub refused_write : (number place : ℕ) → Wrote
refused_write number place = record { number = number; place = place; length = 0 }

-- a refusal alone: its number and place, and zeros
abbrev pub wrote_for : Refusal → Wrote
wrote_for e = refused_write (number_in e.reason) e.place

abbrev pub record_wrote : Result ℕ Refusal → Wrote
record_wrote (Ok n) = record { number = 0; place = 0; length = n }
record_wrote (Err e) = wrote_for e

-- 28 where no record has the kind; the output doesn't change then
unfoldable pub host_wrote : (out : List ℕ) (kind sender number : ℕ) → Code → (frame : List ℕ) (limit : ℕ) → Wrote
host_wrote out kind sender number code frame limit =
    pick (is_record_kind kind) (record_wrote (write_answer out (kind_by kind sender) number (code_by code) frame limit)) (refused_write 28 0)

unfoldable pub host_write : (out : List ℕ) (kind sender number : ℕ) → Code → (frame : List ℕ) (limit : ℕ) → List ℕ
host_write out kind sender number code frame limit =
    pick (is_record_kind kind) (write_out out (kind_by kind sender) number (code_by code) frame limit) out

-- what sealing answers
abbrev pub sealed_for : Refusal → seals.Sealed
sealed_for e = record { number = number_in e.reason; place = e.place }

abbrev pub sealed_as : Result ⊤ Refusal → seals.Sealed
sealed_as (Ok _) = record { number = 0; place = 0 }
sealed_as (Err e) = sealed_for e

-- ---- the prefix

-- the nanoseconds of a header: more than it holds count as the most, so that they are refused
unfoldable pub nanoseconds_by : ℕ → ℕ
nanoseconds_by n = pick (ltb max32 n) max32 n

unfoldable pub header_by : Made → Header
header_by m = record { seconds = m.seconds; nanoseconds = nanoseconds_by m.nanoseconds; sender = m.sender; target = m.target }

abbrev pub images_by : Slots → List (List ℕ)
images_by s = s.zero ∷ s.one ∷ []

abbrev pub prefix_wrote : Result ℕ Refusal → Wrote
prefix_wrote = record_wrote

-- ---- the slots

-- yes is 1, no is 0; there is nothing else
abbrev pub is_yes_no : ℕ → Bool
is_yes_no n = leb n 1

abbrev pub slot_by : Counters → Slot
slot_by c =
    record {
      generation = c.generation;
      sender = c.sender;
      target = c.target;
      end = c.end;
      watermark = c.watermark;
      reset = eqb c.reset 1;
    }

abbrev pub slots_of : List (List ℕ) → Slots
slots_of images = record { zero = get_or images 0 []; one = get_or images 1 [] }

-- two fresh ones, and the generation after theirs; 15 with zeros, or 28 with zeros where a reset is neither owed nor not
abbrev pub fresh_of : Result ℕ Refusal → List (List ℕ) → Fresh
fresh_of (Ok n) images = record { number = 0; place = 0; next = n; slots = slots_of images }
fresh_of (Err e) images = record { number = number_in e.reason; place = e.place; next = 0; slots = slots_of images }

abbrev pub fresh_for : Refusal → Fresh
fresh_for e = record { number = number_in e.reason; place = e.place; next = 0; slots = record { zero = replicate 52 0; one = replicate 52 0 } }

abbrev pub refused_fresh : Fresh
refused_fresh = fresh_for (refused_for Unknown 0)

unfoldable pub host_fresh : Counters → Fresh
host_fresh c = pick (is_yes_no c.reset) (fresh_of (fresh_next c.generation) (fresh_slots (slot_by c))) refused_fresh

-- one as it is written, or 28 with zeros
abbrev pub image_for : Refusal → Image
image_for e = record { number = number_in e.reason; place = e.place; bytes = replicate 52 0 }

abbrev pub refused_image : Image
refused_image = image_for (refused_for Unknown 0)

unfoldable pub host_image : Counters → Image
host_image c = pick (is_yes_no c.reset) (record { number = 0; place = 0; bytes = slot_bytes (slot_by c) }) refused_image
