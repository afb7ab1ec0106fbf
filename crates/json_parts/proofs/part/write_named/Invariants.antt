-- What is written, and what is left of the items, are all of them.
use denote.Shadow.{shadow}
use denote.Text.{Utf8}
use Rattle.std.proofs.Common.{◌≡◌, ◌≤◌, ◌++◌, List, codes, length}
use Rattle.json.specs.Json.{Items}
use Rattle.json.specs.Json as json
use Rattle.json.specs.Token.{Token}
use Rattle.json.specs.Tree.{items_tokens, json_tokens}
use Rattle.json_parts.specs.Parts.{named}
use Rattle.json_parts.proofs.PartLaws.{AreNamed}
use Rattle.json_parts.proofs.part.write_named.Given as goal

abbrev pub invariant-items : goal.invariant-items
invariant-items l = shadow (Utf8 l.name) × record {
  before : l.out.before ≡ l.fn.out.before;
  shorter : length l.reader ≤ length l.fn.reader;
  named : (js : Items) (rest : List Token) → l.fn.reader ≡ items_tokens js ++ rest
      → AreNamed l.name l.reader l.out.tokens rest
      (l.fn.out.tokens ++ json_tokens (json.object (named (codes "key") js)));
}

abbrev pub decreases-items : goal.decreases-items
decreases-items l = length l.reader
