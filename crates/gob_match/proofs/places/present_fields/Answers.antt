use Rattle.std.proofs.Common.{◌-◌, ◌<◌, ◌≤◌, ℕ, arith, sym}
use Rattle.gob_value.proofs.PublicLaws.{all_three, seen}
use Rattle.gob_match.proofs.WholeReceived.{present_end, present_more, stands_here}
use Rattle.gob_match.proofs.places.present_fields.Goals as goal

-- what is left behind a later place is less
further : {n a b c : ℕ} → a < b → b ≤ c → c ≤ n → n - c < n - a
further p q r = omega arith

pub fields-init : goal.fields-init
fields-init g c = record { inside = c.requires; parts = λ end new s. s }

pub returns-then-delta-eq0 : goal.returns-then-delta-eq0
returns-then-delta-eq0 g c =
    c.fields.invariant.parts c.in_ok-delta.behind _ (seen c.in_ok-delta.ensures.stands
    (present_end _ _ _ _ _ _ _ (omega arith)))

pub fields-smaller : goal.fields-smaller
fields-smaller g c = further c.in_ok-delta.ensures.onward c.in_ok-at.ensures.order c.in_ok-at.ensures.inside

pub fields-preserved : goal.fields-preserved
fields-preserved g c = record {
  inside = c.in_ok-at.ensures.inside;
  parts = λ end new s. c.fields.invariant.parts end new
      (all_three c.in_ok-delta.ensures.stands (stands_here _ _ _ c.in_ok-at.ensures) s
      (present_more _ _ _ _ _ _ c.in_ok-number.number c.in_ok-own.own.now (omega arith) c.in_ok-number.ensures.found
      (sym c.in_ok-own.ensures.found) _ _ _ new c.in_ok-delta.ensures.stands.inside c.in_ok-keep_place.ensures));
}
