-- The code's own steps: a request is taken apart, and a text is printed piece by piece, each behind the one before. No public contract cites this file.
-- Assumes nothing.
use Rattle.std.specs.Prelude.{◌≡◌, ℕ, ◌+◌, ◌-◌, min, false, List, length}
use Rattle.std.proofs.lemmas.List.Edits.{sets}
use denote.Ref.{MutBor, at_last}
use Rattle.refusals.specs.declared.Reason.{Reason}
use Rattle.refusals.specs.Refusals.{number_in}
use Rattle.report.specs.declared.requests.Request.{Request}
use Rattle.report.specs.declared.words.Printer.{Printer}
use Rattle.report.specs.Request.{rule_in, limit_in, journal_in, unknown_or_short, request_fault}

-- ---- a request

-- the input is of a kind, and as long as it asks, and these are its parts
pub record Parts (input : List ℕ) (r : Request) : Type 0 where
  pub known : unknown_or_short input ≡ false
  pub rule : r.rule ≡ rule_in input
  pub limit : r.limit ≡ limit_in input
  pub journal : r.journal.now ≡ journal_in input

-- the input asks for it
pub record Asks (input : List ℕ) (r : Request) : Type 0 where
  pub sound : request_fault input ≡ 0
  pub rule : r.rule ≡ rule_in input
  pub limit : r.limit ≡ limit_in input
  pub journal : r.journal.now ≡ journal_in input

-- the input is refused of itself, and for this
pub record Refuses (input : List ℕ) (e : Reason) : Type 0 where
  pub fault : request_fault input ≡ 0 → ⊥
  pub number : number_in e ≡ request_fault input

-- ---- a text

-- the text was laid into `out` from `at` on, as far as it reaches, which left `last`; the next piece goes to `next`
unfoldable pub Wrote : (at : ℕ) (text out : List ℕ) (next : ℕ) (last : List ℕ) → Type 0
Wrote at text out next last = (next ≡ at + min (length text) (length out - at)) × (last ≡ sets out at text)

-- a printer at the front of a buffer
abbrev pub printer_of : MutBor (List ℕ) → Printer
printer_of out = record { out = out; at = 0 }

-- a printer after the text: the same borrow, with the text laid into it from the place on, as far as it reaches, and the place behind that.
-- `at_last x l` is the borrow x at the list l
unfoldable pub printed : (text : List ℕ) → Printer → Printer
printed text p = record { out = at_last p.out (sets p.out.now p.at text); at = p.at + min (length text) (length p.out.now - p.at) }

-- the printer p has printed the text, and is q
pub record Prints (text : List ℕ) (p q : Printer) : Type 0 where
  pub is : q ≡ printed text p
