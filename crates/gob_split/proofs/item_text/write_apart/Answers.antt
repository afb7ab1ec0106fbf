use Rattle.std.proofs.Common.{rules, ◌≡◌, ◌∙◌, ◌++◌, [], List, ap, arith, length, length-append, ℕ}
use Rattle.std.proofs.lemmas.Result.{on_ok_weaker}
use Rattle.gob_split.proofs.CutterLaws.{front_same, rest_same}
use Rattle.gob_split.proofs.item_text.write_apart.Goals as goal

pub returns : goal.returns
returns c =
    let cleared : c.clear.new.self.items ≡ [] = search rules in
    let mid = c.write_items.new.bytes.items in
    let size : c.len-text.result ≡ length mid = omega (arith, c.len-text.ensures, c.write_items.new.bytes.ok) in
    on_ok_weaker c.write_item.result (λ written.
    let v = c.requires.value in
    let all = written v.bytes v.spelled in
    let long = ap length all in
    record {
      within = omega (arith, long, length-append mid v.bytes, size);
      definitions_are = λ bytes are. front_same c.len-text.result mid v.bytes _ all size
          ∙ c.in_ok-write_items.ensures bytes are ∙ ap (λ (l : List ℕ). l ++ bytes) cleared;
      value_is = λ bytes is. rest_same c.len-text.result mid bytes _ (written bytes is) size;
    }) c.write_item.ensures.ok
