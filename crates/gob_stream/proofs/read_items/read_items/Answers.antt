use Rattle.std.proofs.Common.{◌≡◌, ◌++◌, ◌∷◌, [], arith, refl, ap, ◌∙◌}
use Rattle.std.proofs.lemmas.Grind.{common_steps}
use Rattle.gob_stream.specs.Item.{item_views}
use Rattle.gob_stream.specs.Bounds.{no_deeper, within_trees}
use Rattle.gob_stream.specs.Reading.{ReadsStream}
use Rattle.gob_stream.proofs.Reader.SessionSteps.{passed_on, known_taken, stood_first}
use Rattle.gob_stream.proofs.Reader.ReadStreamSteps.{given_none, given_as, given_more, given_still, item_lost}
use Rattle.gob_stream.proofs.Reader.ReadStreamSteps.{stream_stops, stands_next, stream_ends, item_taken}
use Rattle.gob_stream.proofs.read_items.read_items.Goals as goal

pub loop-item-init : goal.loop-item-init
loop-item-init g c =
    let begun = c.requires.new in
    record {
      given = given_none (λ bytes e. known_taken e ((stood_first (g.R.Read.remaining c.args.input.now.reader)).each []
          [] c.requires.has_read));
      limits = refl;
      failures = refl;
      taken = omega (arith, c.args.input.now.taken_fits);
      within = omega arith;
    }

pub returns-in_err-item-clause-items : goal.returns-in_err-item-clause-items
returns-in_err-item-clause-items g c =
    let limits = ap (λ L. no_deeper 1000 L) c.loop-item.invariant.limits in
    given_as (λ given read bytes e.
    let p = read bytes e in
    passed_on (λ r. ReadsStream (within_trees c.args.session.now.limits) bytes
    (g.R.Read.remaining c.read_item.new.input.reader) (item_views given) r) c.from_residual.result _
    c.from_residual.ensures.1
    (stream_stops (no_deeper 1000 c.loop-item.session.limits) (item_views given)
    (g.R.Read.remaining c.read_item.new.input.reader) _ limits p
    (c.in_err-item.ensures.read (item_views given) p.bytes p.taken.left p.holds p.taken.known)))
    c.loop-item.invariant.given

pub loop-item-preserved : goal.loop-item-preserved
loop-item-preserved g c =
    let pushed : c.push.new.self.items ≡ c.loop-item.out.items ++ c.in-Some.item ∷ [] = grind (arith, common_steps) in
    let next = item_taken c.loop-item.session c.read_item.new.self c.loop-item.input.taken c.read_item.new.input.taken
    c.in-Some.is c.in_ok-item.ensures.taken in
    let limit = ap (λ L. L.stream) c.loop-item.invariant.limits in
    record {
      given = given_more c.in-Some.item pushed
          (λ given read bytes e.
          let p = read bytes e in
          stands_next c.loop-item.session c.read_item.new.self given (g.R.Read.remaining c.read_item.new.input.reader)
          c.in-Some.item c.in-Some.is p
          (c.in_ok-item.ensures.read (item_views given) p.bytes p.taken.left p.holds p.taken.known))
          c.loop-item.invariant.given;
      limits = c.in_ok-item.ensures.limits ∙ c.loop-item.invariant.limits;
      failures = c.in_ok-item.ensures.counted ∙ c.loop-item.invariant.failures;
      taken = omega (arith, c.args.input.now.taken_fits);
      within = omega arith;
    }

pub returns-in_err-map_err-clause-items : goal.returns-in_err-map_err-clause-items
returns-in_err-map_err-clause-items g c =
    let kept : c.push.new.self.items ≡ c.loop-item.out.items = grind (arith, common_steps) in
    let limits = ap (λ L. no_deeper 1000 L) c.loop-item.invariant.limits in
    given_still kept (given_as (λ given read bytes e.
    let p = read bytes e in
    passed_on (λ r. ReadsStream (within_trees c.args.session.now.limits) bytes
    (g.R.Read.remaining c.read_item.new.input.reader) (item_views given) r) c.from_residual-in_err-map_err.result _
    c.from_residual-in_err-map_err.ensures.1
    (item_lost c.loop-item.session c.read_item.new.self given (g.R.Read.remaining c.read_item.new.input.reader)
    c.in-Some.item c.in-Some.is limits c.in_ok-item.ensures.limits p
    (c.in_ok-item.ensures.read (item_views given) p.bytes p.taken.left p.holds p.taken.known)))
    c.loop-item.invariant.given)

pub returns-clause-items : goal.returns-clause-items
returns-clause-items g c =
    let limits = ap (λ L. no_deeper 1000 L) c.loop-item.invariant.limits in
    given_as (λ given read bytes e.
    let p = read bytes e in
    stream_ends c.loop-item.session c.read_item.new.self (g.R.Read.remaining c.read_item.new.input.reader) _
    c.in_default.is limits p
    (c.in_ok-item.ensures.read (item_views given) p.bytes p.taken.left p.holds p.taken.known))
    c.loop-item.invariant.given
