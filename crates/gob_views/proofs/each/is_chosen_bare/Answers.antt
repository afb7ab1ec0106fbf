use Rattle.std.proofs.Common.{◌≡◌, Bool, false, not, refl, true}
use Rattle.gob_views.proofs.each.is_chosen_bare.Goals as goal

not_true : (b : Bool) → not b ≡ true → b ≡ false
not_true true e = cc
not_true false e = refl

pub returns : goal.returns
returns c = λ is. (c.if-not-is_chosen.ensures, c.in_ok-leads.ensures (not_true c.in_ok-leads.leads is))
