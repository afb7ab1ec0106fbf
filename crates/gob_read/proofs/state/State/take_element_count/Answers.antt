use Rattle.gob_read.specs.Machine.Kinds.{of_list}
use Rattle.gob_read.proofs.Machine.Parts.{if_ok}
use Rattle.gob_read.proofs.Machine.FirstSteps.{can_begin_as, begins_as}
use Rattle.gob_read.proofs.state.State.take_element_count.Goals as goal

pub take_count-requires : goal.take_count-requires
take_count-requires g c = can_begin_as (λ k l. of_list l c.saturating_sub.ensures) c.requires

pub returns : goal.returns
returns g c = if_ok c.take_count.result (λ moved b. begins_as (λ k l. of_list l c.saturating_sub.ensures) b)
    c.take_count.ensures
