use Rattle.std.proofs.Common.{arith, ◌∙◌, ap, min}
use Rattle.gob_read.specs.Calls.Reader.{nothing_taken}
use Rattle.gob_read.proofs.reader.BodyReader.new.Goals as goal

pub returns : goal.returns
returns g c = λ T d. record {
  so_far = nothing_taken (c.in_ok-run.ensures.new T d);
  depth_is = c.in_ok-run.ensures.depth ∙ c.min.ensures ∙ ap (λ n. min c.args.depth n) c.DEPTH.ensures;
  length_is = c.in_ok-run.ensures.length;
  within = omega arith;
}
