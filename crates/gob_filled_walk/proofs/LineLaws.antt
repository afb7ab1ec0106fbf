-- The line of a value that was read to its end.
use Rattle.std.proofs.Common.{◌≡◌, ℕ, List, [], ◌∷◌, ◌++◌, sym, ap, subst, ◌∙◌, append_assoc, append-nil}
use Rattle.json.specs.Print.{escape_byte}
use Rattle.serde_json.specs.Data.{Data}
use Rattle.serde_json.specs.Written.{compact_text}
use Rattle.gob_num.specs.Unsigned.{AreBytes}
use Rattle.gob_types.specs.declared.id.TypeId.{TypeId}
use Rattle.gob_types.specs.Table.{Table}
use Rattle.gob_value.specs.Tree.{Tree}
use Rattle.gob_filled.specs.Filled.{SpellsFilled}
use Rattle.gob_json.specs.TextWhole.{head_text}
use Rattle.gob_json_writer.specs.NilsJson.{value_json_with, put_json_with}
use Rattle.gob_filled_walk.specs.FilledLine.{FilledLine}
use Rattle.gob_filled_walk.specs.HeldEvent.{HeldEvent}
use Rattle.gob_filled_walk.specs.HeldText.{held_text}
use Rattle.gob_filled_walk.specs.Reads.{ReadsTop}
use Rattle.gob_filled_walk.proofs.ShownLaws.{top_shown}

line_parts : (N : ℕ → Data) (T : Table) (t : TypeId) (v : Tree)
    → (head_text t ++ compact_text (value_json_with N T t 0 v)) ++ 125 ∷ 10 ∷ []
    ≡ compact_text (put_json_with N T t v) ++ 10 ∷ []
unfolding escape_byte
line_parts N T t v = simp append_assoc

pub filled_line : {T : Table} {t : TypeId} {limit : ℕ} {es : List HeldEvent} {bytes text : List ℕ} → AreBytes bytes
    → ReadsTop T t limit es bytes [] → text ≡ (head_text t ++ held_text es) ++ 125 ∷ 10 ∷ []
    → FilledLine T t limit bytes text
filled_line {T = T} {t = t} {limit = limit} {es = es} {bytes = bytes} o reads is =
    let top = top_shown reads in
    let all : bytes ≡ top.begins.bytes = top.begins.whole ∙ append-nil top.begins.bytes in
    record {
      are_bytes = o;
      value = top.begins.value;
      spelled = λ base L. subst (λ l. SpellsFilled base L T t limit top.begins.value l T) (sym all)
          (top.begins.spelled (subst AreBytes all o) base L);
      defines = top.defines;
      tree = top.tree;
      nils = top.nils;
      shows = top.shows;
      text_is = is ∙ ap (λ l. (head_text t ++ l) ++ 125 ∷ 10 ∷ []) top.text
          ∙ line_parts top.nils T t top.tree;
    }
