use Rattle.gob_match.proofs.KindLaws.{others_clash}
use Rattle.gob_match.proofs.kinds.match_struct.Goals as goal

pub returns-in_default : goal.returns-in_default
returns-in_default c = record {
  converts = tt;
  fault = others_clash _ c.args.wanted.now
      c.in_default.not-Struct;
}
