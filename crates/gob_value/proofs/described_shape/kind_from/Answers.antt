use Rattle.gob_value.specs.Description.{gives_opaque}
use Rattle.gob_value.proofs.described_shape.kind_from.Goals as goal

pub returns-in-GobEncoderT-clause-kind : goal.returns-in-GobEncoderT-clause-kind
returns-in-GobEncoderT-clause-kind c = rw c.in-GobEncoderT.is gives_opaque

pub returns-in-BinaryMarshalerT-clause-kind : goal.returns-in-BinaryMarshalerT-clause-kind
returns-in-BinaryMarshalerT-clause-kind c = rw c.in-BinaryMarshalerT.is gives_opaque

pub returns-in-TextMarshalerT-clause-kind : goal.returns-in-TextMarshalerT-clause-kind
returns-in-TextMarshalerT-clause-kind c = rw c.in-TextMarshalerT.is gives_opaque
