-- One outcome for each public function of `fields`.
-- `run`, `rest`, `written`, `Reader::take`, `Reader::rest` and `Writer::written` hand back a part of what was lent: their contracts fix its bytes, not where it stands, so `content` is compared.
-- Assumes nothing.
use mathlib.Core.Path.{refl}
use mathlib.Core.List.{List}
use Prim.Native.Nat.{ℕ}
use denote.Builtin.{u8, u16, u32, u64}
use denote.RattleType.{RattleType}
use mir.Syntax.{Dict}
use contract.BorrowLft.{◌⊑◌, ⊑_static}
use contract.Lifetimes.{Lfts, lft_at}
use Rattle.std.specs.declared.clone.Clone.{Ghosts as Clone}
use Rattle.fields.specs.declared.inside.Number.{Ghosts as Number}
use Rattle.fields.specs.declared.reading.Reader.{Reader}
use Rattle.fields.specs.declared.writing.Writer.{Writer}
use Rattle.fields.specs.contracts as fields
use Rattle.outcomes.specs.OneOutcome.{OneOutcome, whole, content}
use Rattle.outcomes.proofs.Equations.{answers, leaves, answers_and_leaves, value, lends, part, at_every_type}

pub take_run : {M : Type 1} → OneOutcome M fields.take_run.ended (λ 𝓤. fields.take_run.clauses) (λ 𝓤. fields.take_run.spec) whole
take_run = answers value _ (λ κs a. (tt, (tt, (tt, tt)))) (λ κs a ws. refl)

pub run : {M : Type 1} → OneOutcome M fields.run.ended (λ 𝓤. fields.run.clauses) (λ 𝓤. fields.run.spec) (content (λ κs r. r))
run = answers (part (λ κs r. r) (λ κs x. x) (λ κs x. refl)) _ (λ κs a. (tt, (tt, (tt, tt)))) (λ κs a ws. refl)

pub rest : {M : Type 1} → OneOutcome M fields.rest.ended (λ 𝓤. fields.rest.clauses) (λ 𝓤. fields.rest.spec) (content (λ κs r. r))
rest = answers (part (λ κs r. r) (λ κs x. x) (λ κs x. refl)) _ (λ κs a. (tt, (tt, tt))) (λ κs a ws. refl)

pub written : {M : Type 1} → OneOutcome M fields.written.ended (λ 𝓤. fields.written.clauses) (λ 𝓤. fields.written.spec) (content (λ κs r. r))
written = answers (part (λ κs r. r) (λ κs x. x) (λ κs x. refl)) _ (λ κs a. (tt, (tt, tt))) (λ κs a ws. refl)

pub put_run : {M : Type 1} → OneOutcome M fields.put_run.ended (λ 𝓤. fields.put_run.clauses) (λ 𝓤. fields.put_run.spec) whole
put_run = answers_and_leaves value (lends {T = fields.put_run.ended} {X = λ κs. List ℕ} (λ κs e. e.0.now) (λ κs a x. (x, (tt, (tt, tt)))) (λ κs a x. refl) (λ κs a ws. refl)) _ _

-- ---- Reader: it is lent as `&mut`, but for `new` and `rest`
pub reader_new : {M : Type 1} → OneOutcome M fields.reading.Reader.new.ended (λ 𝓤. fields.reading.Reader.new.clauses) (λ 𝓤. fields.reading.Reader.new.spec) whole
reader_new = answers value _ (λ κs a. (tt, tt)) (λ κs a ws. refl)

pub reader_take : {M : Type 1} → OneOutcome M fields.reading.Reader.take.ended (λ 𝓤. fields.reading.Reader.take.clauses) (λ 𝓤. fields.reading.Reader.take.spec) (content (λ κs r. r))
reader_take = answers_and_leaves (part (λ κs r. r) (λ κs x. x) (λ κs x. refl)) (lends {T = fields.reading.Reader.take.ended} {X = λ κs. Reader} (λ κs e. e.0.now) (λ κs a x. (x, (tt, tt))) (λ κs a x. refl) (λ κs a ws. refl)) _ _

pub reader_rest : {M : Type 1} → OneOutcome M fields.reading.Reader.rest.ended (λ 𝓤. fields.reading.Reader.rest.clauses) (λ 𝓤. fields.reading.Reader.rest.spec) (content (λ κs r. r))
reader_rest = answers (part (λ κs r. r) (λ κs x. x) (λ κs x. refl)) _ (λ κs a. (tt, tt)) (λ κs a ws. refl)

-- ---- Writer: it is lent as `&mut`, and with it the bytes that it holds, but for `new` and `written`, whose result holds them on
pub writer_new : {M : Type 1} → OneOutcome M fields.writing.Writer.new.ended (λ 𝓤. fields.writing.Writer.new.clauses) (λ 𝓤. fields.writing.Writer.new.spec) whole
writer_new = answers value _ (λ κs a. (tt, tt)) (λ κs a ws. refl)

pub writer_put : {M : Type 1} → OneOutcome M fields.writing.Writer.put.ended (λ 𝓤. fields.writing.Writer.put.clauses) (λ 𝓤. fields.writing.Writer.put.spec) whole
writer_put = leaves (lends {T = fields.writing.Writer.put.ended} {X = λ κs. Writer} (λ κs e. e.0.now) (λ κs a x. (x, (tt, tt))) (λ κs a x. refl) (λ κs a ws. refl)) _ (λ κs. tt) (λ κs r. refl)

pub writer_written : {M : Type 1} → OneOutcome M fields.writing.Writer.written.ended (λ 𝓤. fields.writing.Writer.written.clauses) (λ 𝓤. fields.writing.Writer.written.spec) (content (λ κs r. r))
writer_written = answers (part (λ κs r. r) (λ κs x. x) (λ κs x. refl)) _ (λ κs a. ((tt, tt), tt)) (λ κs a ws. refl)

-- ---- a number of any type N whose values live as long as the call: u8, u16, u32 and u64 live for ever
module _ (N : RattleType) (n : Number N.Denot) (d : Dict) (c : Clone N.Denot) (e : Dict) where
  pub take_number : {M : Type 1} → ((κs : Lfts 2) → lft_at 2 1 tt κs ⊑ N.lives)
      → OneOutcome M (fields.take_number.ended N n d c e) (λ 𝓤. fields.take_number.clauses N n d c e) (λ 𝓤. fields.take_number.spec N n d c e) whole
  take_number long = at_every_type _ long (answers value _ (λ κs a. (tt, (tt, tt))) (λ κs a ws. refl))

  pub put_number : {M : Type 1} → ((κs : Lfts 2) → lft_at 2 1 tt κs ⊑ N.lives)
      → OneOutcome M (fields.put_number.ended N n d c e) (λ 𝓤. fields.put_number.clauses N n d c e) (λ 𝓤. fields.put_number.spec N n d c e) whole
  put_number long = at_every_type _ long (answers_and_leaves value (lends {T = fields.put_number.ended N n d c e} {X = λ κs. List ℕ} (λ κs e. e.0.now) (λ κs a x. (x, (tt, (tt, tt)))) (λ κs a x. refl) (λ κs a ws. refl)) _ _)

  pub reader_number : {M : Type 1} → ((κs : Lfts 3) → lft_at 3 2 tt κs ⊑ N.lives)
      → OneOutcome M (fields.reading.Reader.number.ended N n d c e) (λ 𝓤. fields.reading.Reader.number.clauses N n d c e) (λ 𝓤. fields.reading.Reader.number.spec N n d c e) whole
  reader_number long = at_every_type _ long (answers_and_leaves value (lends {T = fields.reading.Reader.number.ended N n d c e} {X = λ κs. Reader} (λ κs e. e.0.now) (λ κs a x. (x, tt)) (λ κs a x. refl) (λ κs a ws. refl)) _ _)

  pub writer_put_number : {M : Type 1} → ((κs : Lfts 3) → lft_at 3 2 tt κs ⊑ N.lives)
      → OneOutcome M (fields.writing.Writer.put_number.ended N n d c e) (λ 𝓤. fields.writing.Writer.put_number.clauses N n d c e) (λ 𝓤. fields.writing.Writer.put_number.spec N n d c e) whole
  writer_put_number long = at_every_type _ long (leaves (lends {T = fields.writing.Writer.put_number.ended N n d c e} {X = λ κs. Writer} (λ κs e. e.0.now) (λ κs a x. (x, (tt, tt))) (λ κs a x. refl) (λ κs a ws. refl)) _ (λ κs. tt) (λ κs r. refl))

-- ---- at the four types of numbers, which live for ever
module _ (n : Number u8.Denot) (d : Dict) (c : Clone u8.Denot) (e : Dict) where
  pub take_u8 : {M : Type 1} → OneOutcome M (fields.take_number.ended u8 n d c e) (λ 𝓤. fields.take_number.clauses u8 n d c e) (λ 𝓤. fields.take_number.spec u8 n d c e) whole
  take_u8 = take_number u8 n d c e (λ κs. ⊑_static (lft_at 2 1 tt κs))

  pub put_u8 : {M : Type 1} → OneOutcome M (fields.put_number.ended u8 n d c e) (λ 𝓤. fields.put_number.clauses u8 n d c e) (λ 𝓤. fields.put_number.spec u8 n d c e) whole
  put_u8 = put_number u8 n d c e (λ κs. ⊑_static (lft_at 2 1 tt κs))

  pub reader_u8 : {M : Type 1} → OneOutcome M (fields.reading.Reader.number.ended u8 n d c e) (λ 𝓤. fields.reading.Reader.number.clauses u8 n d c e) (λ 𝓤. fields.reading.Reader.number.spec u8 n d c e) whole
  reader_u8 = reader_number u8 n d c e (λ κs. ⊑_static (lft_at 3 2 tt κs))

  pub writer_put_u8 : {M : Type 1} → OneOutcome M (fields.writing.Writer.put_number.ended u8 n d c e) (λ 𝓤. fields.writing.Writer.put_number.clauses u8 n d c e) (λ 𝓤. fields.writing.Writer.put_number.spec u8 n d c e) whole
  writer_put_u8 = writer_put_number u8 n d c e (λ κs. ⊑_static (lft_at 3 2 tt κs))

module _ (n : Number u16.Denot) (d : Dict) (c : Clone u16.Denot) (e : Dict) where
  pub take_u16 : {M : Type 1} → OneOutcome M (fields.take_number.ended u16 n d c e) (λ 𝓤. fields.take_number.clauses u16 n d c e) (λ 𝓤. fields.take_number.spec u16 n d c e) whole
  take_u16 = take_number u16 n d c e (λ κs. ⊑_static (lft_at 2 1 tt κs))

  pub put_u16 : {M : Type 1} → OneOutcome M (fields.put_number.ended u16 n d c e) (λ 𝓤. fields.put_number.clauses u16 n d c e) (λ 𝓤. fields.put_number.spec u16 n d c e) whole
  put_u16 = put_number u16 n d c e (λ κs. ⊑_static (lft_at 2 1 tt κs))

  pub reader_u16 : {M : Type 1} → OneOutcome M (fields.reading.Reader.number.ended u16 n d c e) (λ 𝓤. fields.reading.Reader.number.clauses u16 n d c e) (λ 𝓤. fields.reading.Reader.number.spec u16 n d c e) whole
  reader_u16 = reader_number u16 n d c e (λ κs. ⊑_static (lft_at 3 2 tt κs))

  pub writer_put_u16 : {M : Type 1} → OneOutcome M (fields.writing.Writer.put_number.ended u16 n d c e) (λ 𝓤. fields.writing.Writer.put_number.clauses u16 n d c e) (λ 𝓤. fields.writing.Writer.put_number.spec u16 n d c e) whole
  writer_put_u16 = writer_put_number u16 n d c e (λ κs. ⊑_static (lft_at 3 2 tt κs))

module _ (n : Number u32.Denot) (d : Dict) (c : Clone u32.Denot) (e : Dict) where
  pub take_u32 : {M : Type 1} → OneOutcome M (fields.take_number.ended u32 n d c e) (λ 𝓤. fields.take_number.clauses u32 n d c e) (λ 𝓤. fields.take_number.spec u32 n d c e) whole
  take_u32 = take_number u32 n d c e (λ κs. ⊑_static (lft_at 2 1 tt κs))

  pub put_u32 : {M : Type 1} → OneOutcome M (fields.put_number.ended u32 n d c e) (λ 𝓤. fields.put_number.clauses u32 n d c e) (λ 𝓤. fields.put_number.spec u32 n d c e) whole
  put_u32 = put_number u32 n d c e (λ κs. ⊑_static (lft_at 2 1 tt κs))

  pub reader_u32 : {M : Type 1} → OneOutcome M (fields.reading.Reader.number.ended u32 n d c e) (λ 𝓤. fields.reading.Reader.number.clauses u32 n d c e) (λ 𝓤. fields.reading.Reader.number.spec u32 n d c e) whole
  reader_u32 = reader_number u32 n d c e (λ κs. ⊑_static (lft_at 3 2 tt κs))

  pub writer_put_u32 : {M : Type 1} → OneOutcome M (fields.writing.Writer.put_number.ended u32 n d c e) (λ 𝓤. fields.writing.Writer.put_number.clauses u32 n d c e) (λ 𝓤. fields.writing.Writer.put_number.spec u32 n d c e) whole
  writer_put_u32 = writer_put_number u32 n d c e (λ κs. ⊑_static (lft_at 3 2 tt κs))

module _ (n : Number u64.Denot) (d : Dict) (c : Clone u64.Denot) (e : Dict) where
  pub take_u64 : {M : Type 1} → OneOutcome M (fields.take_number.ended u64 n d c e) (λ 𝓤. fields.take_number.clauses u64 n d c e) (λ 𝓤. fields.take_number.spec u64 n d c e) whole
  take_u64 = take_number u64 n d c e (λ κs. ⊑_static (lft_at 2 1 tt κs))

  pub put_u64 : {M : Type 1} → OneOutcome M (fields.put_number.ended u64 n d c e) (λ 𝓤. fields.put_number.clauses u64 n d c e) (λ 𝓤. fields.put_number.spec u64 n d c e) whole
  put_u64 = put_number u64 n d c e (λ κs. ⊑_static (lft_at 2 1 tt κs))

  pub reader_u64 : {M : Type 1} → OneOutcome M (fields.reading.Reader.number.ended u64 n d c e) (λ 𝓤. fields.reading.Reader.number.clauses u64 n d c e) (λ 𝓤. fields.reading.Reader.number.spec u64 n d c e) whole
  reader_u64 = reader_number u64 n d c e (λ κs. ⊑_static (lft_at 3 2 tt κs))

  pub writer_put_u64 : {M : Type 1} → OneOutcome M (fields.writing.Writer.put_number.ended u64 n d c e) (λ 𝓤. fields.writing.Writer.put_number.clauses u64 n d c e) (λ 𝓤. fields.writing.Writer.put_number.spec u64 n d c e) whole
  writer_put_u64 = writer_put_number u64 n d c e (λ κs. ⊑_static (lft_at 3 2 tt κs))
