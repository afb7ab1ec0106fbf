use Rattle.std.proofs.Common.{◌∙◌, ap, bytes_eq}
use Rattle.gob_appended.specs.Known.{is_known, known}
use Rattle.gob_appended.proofs.KnownLaws.{any_mapped}
use Rattle.gob_appended.proofs.known.Known.place_of.Goals as goal

pub returns : goal.returns
returns c =
    let met = c.args.self.now.met.keys in
    c.get_index_of.ensures.found ∙ any_mapped met (λ v. v.items) (bytes_eq c.in_ok-bytes.bytes.items)
    ∙ ap (is_known (known c.args.self.now)) (c.in_ok-bytes.ensures.items_if_clones_equal (λ x y h. h))
