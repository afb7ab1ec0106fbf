-- So many bytes stand behind 0x.
use Rattle.std.proofs.Common.{◌≡◌, ◌++◌, codes, take, string_bytes}
use Rattle.std.specs.List.{flat_map}
use Rattle.gob_explain.specs.Names.{byte_text}
use Rattle.gob_explain.proofs.text.names.push_name.Given as goal

abbrev pub invariant-loop-byte : goal.invariant-loop-byte
invariant-loop-byte l =
    string_bytes l.out ≡ (string_bytes l.fn.out ++ codes "0x") ++ flat_map byte_text (take l.byte-index l.name)
