use Rattle.std.proofs.Common.{[], ◌++◌, ◌∷◌, ◌+◌, ◌≡◌, ap, ◌∙◌, arith}
use Rattle.std.proofs.lemmas.Grind.{common_steps}
use Rattle.gob_stream.specs.Bounds.{within_trees}
use Rattle.gob_stream.specs.Item.{item_views}
use Rattle.gob_stream.proofs.Reader.ReadStreamSteps.{given_none, given_as, given_more}
use Rattle.gob_stream_laws.proofs.Prefixes.{taken_none, taken_more, prefix_read, all_read, one_fewer}
use Rattle.gob_stream_laws.proofs.prefix.read_prefix.Goals as goal

pub loop-left-init : goal.loop-left-init
loop-left-init g c = record {
  limits = c.in_ok-session.ensures.limits;
  given = given_none (
    omega arith,
    λ bytes known. taken_none c.in_ok-session.session known
        c.in_ok-session.ensures.has_read,
  );
}

pub returns-in_default : goal.returns-in_default
returns-in_default g c =
    let limits = ap (λ L. within_trees L) c.loop-left.invariant.limits in
    given_as (λ given h bytes known.
    let p = h.1 bytes known in
    all_read c.read_item.new.self _ (item_views given) c.in_default.is limits p (omega (arith, h.0))
    (c.in_ok-item.ensures.read (item_views given) p.bytes p.taken.left p.holds.read p.taken.known))
    c.loop-left.invariant.given

pub loop-left-preserved : goal.loop-left-preserved
loop-left-preserved g c =
    let pushed : c.push.new.self.items ≡ c.loop-left.out.items ++ c.in-Some.item ∷ [] = grind (arith, common_steps) in
    record {
      limits = c.in_ok-item.ensures.limits ∙ c.loop-left.invariant.limits;
      given = given_more c.in-Some.item pushed
          (λ given h. (
            one_fewer given c.in-Some.item _ _ (omega arith) h.0,
            λ bytes known.
                let p = h.1 bytes known in
                taken_more c.loop-left.session c.read_item.new.self given _ c.in-Some.item c.in-Some.is p
                (c.in_ok-item.ensures.read (item_views given) p.bytes p.taken.left p.holds.read p.taken.known),
          ))
          c.loop-left.invariant.given;
    }

pub returns : goal.returns
returns g c =
    let limits = ap (λ L. within_trees L) c.loop-left.invariant.limits in
    given_as (λ given h bytes known. prefix_read (item_views given) limits (h.1 bytes known) (omega (arith, h.0)))
    c.loop-left.invariant.given
