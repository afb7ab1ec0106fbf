use Rattle.std.proofs.Common.{◌∙◌, refl, sym, ap, arith, subst, length, ℕ, List}
use Rattle.std.proofs.KnownBytes.{Keeps-refl, Keeps-trans}
use Rattle.gob_stream.specs.Calls.Ends.{reader_of}
use Rattle.gob_stream.specs.Calls.Waiting.{waiting, Brings}
use Rattle.gob_write.specs.Texts.{EndsIn, IsSearched}
use Rattle.gob_write.proofs.LineLaws.{if_ok_le, left_there, longer_there}
use Rattle.gob_write.proofs.TextLaws.{last_text, none_searched, searched_there, text_waits, too_long}
use Rattle.gob_write.proofs.texts.next_text.Goals as goal

pub reads-init : goal.reads-init
reads-init g c = record {
  searched = none_searched _;
  left = λ bytes h. h;
  sent = Keeps-refl _;
  reads = refl;
  writes = refl;
}

pub ends_in-requires : goal.ends_in-requires
ends_in-requires g c = subst (λ (l : List ℕ). IsSearched c.reads.searched l) (sym c.bytes.ensures)
    c.reads.invariant.searched

pub returns-then-ends_in-clause-text : goal.returns-then-ends_in-clause-text
returns-then-ends_in-clause-text g c = λ bytes h.
    text_waits c.args.most c.args.line c.ends_in.new.self c.within.result c.within.ensures.count c.within.ensures.long
    (c.reads.invariant.left bytes h)
    (subst (λ (l : List ℕ). EndsIn c.ends_in.new.self l) c.bytes.ensures (c.ends_in.ensures.ends c.if-ends_in.true))

pub returns-then-ends_in-clause-within : goal.returns-then-ends_in-clause-within
returns-then-ends_in-clause-within g c =
    let ends = subst (λ (l : List ℕ). EndsIn c.ends_in.new.self l) c.bytes.ensures
    (c.ends_in.ensures.ends c.if-ends_in.true) in
    if_ok_le _ c.args.most _ c.within.result c.within.ensures.count ends.within

pub returns-in_err-within-clause-text : goal.returns-in_err-within-clause-text
returns-in_err-within-clause-text g c = λ bytes h.
    let goes = c.ends_in.ensures.goes_on c.if-ends_in.false in
    too_long c.args.most c.args.line c.ends_in.new.self c.from_residual.result _ c.from_residual.ensures.1
    c.in_err-within.ensures.long (subst (λ (l : List ℕ). IsSearched c.ends_in.new.self l) c.bytes.ensures goes.0)
    (goes.1 ∙ ap length c.bytes.ensures) (c.reads.invariant.left bytes h)

pub returns-then-branch-eq0-clause-text : goal.returns-then-branch-eq0-clause-text
returns-then-branch-eq0-clause-text g c = λ bytes h.
    let goes = c.ends_in.ensures.goes_on c.if-ends_in.false in
    let got = subst (λ (n : ℕ). Brings (g.R.Read.remaining (reader_of c.reads.input))
    (g.R.Read.remaining (reader_of c.read_on.new.input)) (waiting c.reads.buffered) (waiting c.read_on.new.buffered) n)
    c.if-branch-eq0.true c.in_ok-read_on.ensures.read in
    last_text (subst (λ (l : List ℕ). IsSearched c.ends_in.new.self l) c.bytes.ensures goes.0)
    (goes.1 ∙ ap length c.bytes.ensures) c.in_ok-within.ensures.count.1 (c.reads.invariant.left bytes h) got

pub returns-then-branch-eq0-clause-within : goal.returns-then-branch-eq0-clause-within
returns-then-branch-eq0-clause-within g c =
    let goes = c.ends_in.ensures.goes_on c.if-ends_in.false in
    omega (
      arith,
      goes.1,
      ap length c.bytes.ensures,
      longer_there c.reads.buffered c.read_on.new.buffered c.in_ok-read_on.ensures.read,
    )

pub reads-preserved : goal.reads-preserved
reads-preserved g c =
    let goes = c.ends_in.ensures.goes_on c.if-ends_in.false in
    let got = c.in_ok-read_on.ensures.read in
    record {
      searched = searched_there c.reads.buffered c.read_on.new.buffered
          (subst (λ (l : List ℕ). IsSearched c.ends_in.new.self l) c.bytes.ensures goes.0) got;
      left = λ bytes h. left_there (c.reads.invariant.left bytes h) got;
      sent = Keeps-trans _ _ _ c.reads.invariant.sent c.in_ok-read_on.ensures.sent;
      reads = c.in_ok-read_on.ensures.reads ∙ c.reads.invariant.reads;
      writes = c.in_ok-read_on.ensures.writes ∙ c.reads.invariant.writes;
    }
