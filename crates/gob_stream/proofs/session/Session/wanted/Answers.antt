use Rattle.std.proofs.Common.{arith, ap}
use Rattle.gob_stream.proofs.Reader.WantedSteps.{value_left, description_left}
use Rattle.gob_stream.proofs.session.Session.wanted.Goals as goal

pub bytes_to_come-requires : goal.bytes_to_come-requires
bytes_to_come-requires g c = let l = value_left c.self.invariant c.in-Value.is in
    omega (arith, ap (λ s. s.taken) c.self.view_is)

pub bytes_to_come-requires-in-Description : goal.bytes_to_come-requires-in-Description
bytes_to_come-requires-in-Description g c = let l = description_left c.self.invariant c.in-Description.is in
    omega (arith, ap (λ s. s.taken) c.self.view_is)

pub returns-in-Value-clause-some : goal.returns-in-Value-clause-some
returns-in-Value-clause-some g c = let l = value_left c.self.invariant c.in-Value.is in
    omega (arith, ap (λ s. s.taken) c.self.view_is)

pub returns-in-Description-clause-some : goal.returns-in-Description-clause-some
returns-in-Description-clause-some g c = let l = description_left c.self.invariant c.in-Description.is in
    omega (arith, ap (λ s. s.taken) c.self.view_is)
