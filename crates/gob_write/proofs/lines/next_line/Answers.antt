use Rattle.std.proofs.Common.{◌≡◌, ◌∙◌, refl, sym, ap, arith, subst}
use Rattle.std.proofs.Common.{length, take, drop, ◌-◌, ◌≤◌, ℕ, List}
use Rattle.std.proofs.KnownBytes.{Keeps-refl, Keeps-trans}
use Rattle.std.proofs.lemmas.List.{length-drop}
use Rattle.gob_stream.specs.Calls.Ends.{reader_of}
use Rattle.gob_stream.specs.Calls.Waiting.{waiting, Brings}
use Rattle.gob_write.proofs.LineLaws.{HasNoFeed, no_feed, all_behind, none_waits, one_waits, line_waits, too_long}
use Rattle.gob_write.proofs.LineLaws.{if_ok_le, left_there, last_line, searched_there, longer_there}
use Rattle.gob_write.specs.Lines.{first_line, Waits}
use Rattle.gob_write.proofs.lines.next_line.Goals as goal

-- what is searched are the bytes that wait behind those that were searched
searched : (s : ℕ) (b w : List ℕ) → b ≡ w → take (length b - s) (drop s b) ≡ drop s w
searched s b w e = ap (λ (l : List ℕ). take (length l - s) (drop s l)) e ∙ all_behind s w

pub loop-place-init : goal.loop-place-init
loop-place-init g c = record {
  searched = omega arith;
  no_feed = no_feed;
  left = λ bytes h. h;
  sent = Keeps-refl _;
  reads = refl;
  writes = refl;
}

pub returns-in-Some-clause-line : goal.returns-in-Some-clause-line
returns-in-Some-clause-line g c = λ bytes h.
    let left = c.loop-place.invariant.left bytes h in
    let w = waiting c.loop-place.buffered in
    let is = searched c.loop-place.searched c.bytes.result.now w c.bytes.ensures in
    let long = ap length is ∙ length-drop c.loop-place.searched w in
    let high = c.in-Some.ensures.0.high in
    line_waits c.args.most c.args.number _ c.within.result c.within.ensures.count c.within.ensures.long left
    (omega (arith, long, high)) (omega arith)
    (one_waits c.loop-place.searched c.in-Some.place w _ left.unread c.loop-place.invariant.no_feed is
    c.in-Some.ensures.0
    c.in-Some.ensures.1 ∙ sym (ap first_line left.whole))

pub returns-in_err-within-clause-line : goal.returns-in_err-within-clause-line
returns-in_err-within-clause-line g c = λ bytes h.
    let w = waiting c.loop-place.buffered in
    let is = searched c.loop-place.searched c.bytes.result.now w c.bytes.ensures in
    let none = none_waits c.loop-place.searched w c.loop-place.invariant.no_feed is c.in_default.ensures in
    let long = c.in_err-within.ensures.long in
    let all = ap length c.bytes-searched.ensures in
    too_long c.args.most c.args.number c.from_residual.result _ c.from_residual.ensures.1
    (long.0, omega (arith, long.1, all)) none (c.loop-place.invariant.left bytes h)

pub returns-then-branch-eq0-clause-line : goal.returns-then-branch-eq0-clause-line
returns-then-branch-eq0-clause-line g c = λ bytes h.
    let w = waiting c.loop-place.buffered in
    let is = searched c.loop-place.searched c.bytes.result.now w c.bytes.ensures in
    let none = none_waits c.loop-place.searched w c.loop-place.invariant.no_feed is c.in_default.ensures in
    let all = ap length c.bytes-searched.ensures in
    let short = c.in_ok-within.ensures.count.1 in
    let got = subst (λ (n : ℕ). Brings (g.R.Read.remaining (reader_of c.loop-place.input))
    (g.R.Read.remaining (reader_of c.read_on.new.input)) w (waiting c.read_on.new.buffered) n) c.if-branch-eq0.true
    c.in_ok-read_on.ensures.read in
    subst (λ (n : ℕ). Waits c.args.most bytes c.read_on.new.buffered
    (g.R.Read.remaining (reader_of c.read_on.new.input)) n) (sym all)
    (last_line none (omega (arith, all, short)) (c.loop-place.invariant.left bytes h) got)

pub loop-place-preserved : goal.loop-place-preserved
loop-place-preserved g c =
    let w = waiting c.loop-place.buffered in
    let is = searched c.loop-place.searched c.bytes.result.now w c.bytes.ensures in
    let none = none_waits c.loop-place.searched w c.loop-place.invariant.no_feed is c.in_default.ensures in
    let all = ap length c.bytes-searched.ensures in
    let got = c.in_ok-read_on.ensures.read in
    record {
      searched = omega (arith, all, longer_there c.loop-place.buffered c.read_on.new.buffered got);
      no_feed = subst (λ (n : ℕ). HasNoFeed (take n (waiting c.read_on.new.buffered))) (sym all)
          (searched_there c.loop-place.buffered c.read_on.new.buffered none got);
      left = λ bytes h. left_there (c.loop-place.invariant.left bytes h) got;
      sent = Keeps-trans _ _ _ c.loop-place.invariant.sent c.in_ok-read_on.ensures.sent;
      reads = c.in_ok-read_on.ensures.reads ∙ c.loop-place.invariant.reads;
      writes = c.in_ok-read_on.ensures.writes ∙ c.loop-place.invariant.writes;
    }

pub returns-in-Some-clause-within : goal.returns-in-Some-clause-within
returns-in-Some-clause-within g c =
    let w = waiting c.loop-place.buffered in
    let is = searched c.loop-place.searched c.bytes.result.now w c.bytes.ensures in
    let long = ap length is ∙ length-drop c.loop-place.searched w in
    let high = c.in-Some.ensures.0.high in
    if_ok_le _ c.args.most _ c.within.result c.within.ensures.count (omega (arith, long, high))

pub returns-then-branch-eq0-clause-within : goal.returns-then-branch-eq0-clause-within
returns-then-branch-eq0-clause-within g c =
    omega (
      arith,
      ap length c.bytes-searched.ensures,
      longer_there c.loop-place.buffered c.read_on.new.buffered c.in_ok-read_on.ensures.read,
    )
