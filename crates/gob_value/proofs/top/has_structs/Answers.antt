use Rattle.std.proofs.Common.{ap, is_some, sym, ◌∙◌, true≢false}
use Rattle.std.specs.Option.{option_copied}
use Rattle.gob_value.proofs.top.has_structs.Goals as goal

pub returns-in-None : goal.returns-in-None
returns-in-None g c = (
  λ no. absurd (true≢false (sym no)),
  λ has. absurd (true≢false
      (sym (ap is_some (ap option_copied (sym c.in-None.is) ∙ (c.shape_of.ensures ∙ has.found))))),
)
