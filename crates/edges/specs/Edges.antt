-- The edges of the scope that are marked P: one table under one theorem, computed from the definitions.
-- Assumes nothing.
use Rattle.std.specs.Prelude.{ℕ, ◌-◌, ◌^◌, ◌≡◌, refl, Bool, true, false, [], ◌∷◌, ◌++◌, length, take, replicate, Ok, Err}
use Rattle.crc32.specs.Crc.{crc_from, crc_of}
use Rattle.fields.specs.Fields.{le_bytes}
use Rattle.refusals.specs.Refusals.{refusal}
use Rattle.prefix.specs.declared.Position.TheVariants.{First}
use Rattle.prefix.specs.Slots.{newest_at, newest_fault, one_on, fresh_slots, fresh_next}
use Rattle.record.specs.declared.Kind.TheVariants.{Plain, Counter}
use Rattle.record.specs.Write.{body_front, body_bytes, record_bytes}
use Rattle.journal.specs.declared.Rule.TheVariants.{Tail, Anywhere, Salvage}
use Rattle.journal.specs.declared.Cut.TheVariants.{None, Damaged}
use Rattle.edges.specs.Samples.{slot, slot_laid, image_of, image4, image_last3, image_last2, prefix_laid, at12287, at12288, at12289, at12300}
use Rattle.edges.specs.Samples.{body1, with_crc, four, wrong_crc, wrong_complement, head, newest, scan, refuses, opens, says_of}
use Rattle.edges.specs.Samples.{says}

-- the number that refuses two slots of generation 4: one with the sender 7, target 9, durable end 12,288, watermark 0 and no reset owed, and one
-- with other contents, in the same order
against : (s t e w : ℕ) (reset : Bool) → ℕ
unfolding slot_laid image_of newest
against s t e w reset =
    newest_fault (newest image4 (image_of (record { generation = 4; sender = s; target = t; end = e; watermark = w; reset = reset })))

-- a case is a line: what is asked, and the answer. A refusal is its number and place, an open journal its records, end, cut and stale
edges :
    -- length 43: 1
    (says (Tail 1) (take 43 at12288) ≡ refuses 1 0)
    -- valid prefix cut at 12,287: 7
    × (says (Tail 1) (take 12287 at12288) ≡ refuses 7 0)
    -- 12,288 bytes, B = 12,288, Tail: opens empty
    × (says (Tail 1) at12288 ≡ opens 0 12288 None false)
    -- B = 12,289: 10 at 12,288; Anywhere: opens, stale
    × ((says (Tail 1) at12289 ≡ refuses 10 12288)
    × (says Anywhere at12289 ≡ opens 0 12288 None true))
    -- length 0 with complement FFFFFFFF: 13 under Tail and Anywhere, cut under Salvage
    × ((says (Tail 1) (at12288 ++ head 0) ≡ refuses 13 12288)
    × (says Anywhere (at12288 ++ head 0) ≡ refuses 13 12288)
    × (says Salvage (at12288 ++ head 0) ≡ opens 0 12288 (Damaged 12) false))
    -- the same below B
    × ((says (Tail 1) (at12300 ++ head 0) ≡ refuses 13 12288)
    × (says Anywhere (at12300 ++ head 0) ≡ refuses 13 12288)
    × (says Salvage (at12300 ++ head 0) ≡ opens 0 12288 (Damaged 12) true))
    -- limit 100, N = 2, wrong complement at or past B, nonzero: r = 224 cut, r = 225 is 11
    × ((says (Tail 2) (at12288 ++ wrong_complement 224) ≡ opens 0 12288 (Damaged 224) false)
    × (says (Tail 2) (at12288 ++ wrong_complement 225) ≡ refuses 11 12288)
    × (says (Tail 2) (at12287 ++ wrong_complement 224) ≡ opens 0 12288 (Damaged 224) false)
    × (says (Tail 2) (at12287 ++ wrong_complement 225) ≡ refuses 11 12288))
    -- N = 0, wrong complement at or past B: cut if all r bytes are zero, else 11
    × ((says (Tail 0) (at12288 ++ replicate 12 0) ≡ opens 0 12288 (Damaged 12) false)
    × (says (Tail 0) (at12288 ++ wrong_complement 12) ≡ refuses 11 12288)
    × (says (Tail 0) (at12287 ++ replicate 12 0) ≡ opens 0 12288 (Damaged 12) false)
    × (says (Tail 0) (at12287 ++ wrong_complement 12) ≡ refuses 11 12288))
    -- N = 1, wrong CRC at or past B: cut if nothing or zeros follow, else 12
    × ((says (Tail 1) (at12288 ++ wrong_crc) ≡ opens 0 12288 (Damaged 27) false)
    × (says (Tail 1) (at12288 ++ wrong_crc ++ replicate 5 0) ≡ opens 0 12288 (Damaged 32) false)
    × (says (Tail 1) (at12288 ++ wrong_crc ++ 0 ∷ 1 ∷ []) ≡ refuses 12 12288)
    × (says (Tail 1) (at12287 ++ wrong_crc) ≡ opens 0 12288 (Damaged 27) false)
    × (says (Tail 1) (at12287 ++ wrong_crc ++ replicate 5 0) ≡ opens 0 12288 (Damaged 32) false)
    × (says (Tail 1) (at12287 ++ wrong_crc ++ 0 ∷ 1 ∷ []) ≡ refuses 12 12288))
    -- fresh slots from 2^64-3 stand; from 2^64-2: 15
    × ((fresh_next (2 ^ 64 - 3) ≡ Ok (2 ^ 64 - 1))
    × (fresh_slots (slot (2 ^ 64 - 3) 12288) ≡ image_last3 ∷ image_last2 ∷ [])
    × (fresh_next (2 ^ 64 - 2) ≡ Err (refusal 15 0))
    × (fresh_slots (slot (2 ^ 64 - 2) 12288) ≡ replicate 52 0 ∷ replicate 52 0 ∷ []))
    -- equal slots choose 0
    × (newest image4 image4 ≡ newest_at First (slot 4 12288))
    -- one field changed: 9
    × ((against 7 9 12288 0 false ≡ 0)
    × (against 8 9 12288 0 false ≡ 9)
    × (against 7 8 12288 0 false ≡ 9)
    × (against 7 9 12289 0 false ≡ 9)
    × (against 7 9 12288 1 false ≡ 9)
    × (against 7 9 12288 0 true ≡ 9))
    -- kind 1, code D, frame of 4: body 15, record 27; kind 5: 31 and 43
    × ((length (body_bytes Plain 1 0 (0x44 ∷ []) four) ≡ 15)
    × (length (record_bytes (body_bytes Plain 1 0 (0x44 ∷ []) four)) ≡ 27)
    × (length (body_bytes (Counter 50) 2 0 (0x44 ∷ []) four) ≡ 31)
    × (length (record_bytes (body_bytes (Counter 50) 2 0 (0x44 ∷ []) four)) ≡ 43))
    -- CRC of nothing is 0
    × (crc_of [] ≡ 0)
unfolding slot_laid image_of prefix_laid body1 with_crc head newest scan says_of against le_bytes crc_from crc_of body_front body_bytes record_bytes
    one_on fresh_slots fresh_next
edges = (
  refl,
  refl,
  refl,
  (refl, refl),
  (refl, refl, refl),
  (refl, refl, refl),
  (refl, refl, refl, refl),
  (refl, refl, refl, refl),
  (refl, refl, refl, refl, refl, refl),
  (refl, refl, refl, refl),
  refl,
  (refl, refl, refl, refl, refl, refl),
  (refl, refl, refl, refl),
  refl,
)
