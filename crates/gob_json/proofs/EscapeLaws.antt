-- What stands for text in a JSON string, run by run.
use Rattle.std.proofs.Common.{◌≡◌, ℕ, ◌+◌, ◌-◌, ◌<◌, ◌≤◌, List, [], ◌++◌, length, take, drop, get_or, ◌∙◌, ap, sym}
use Rattle.std.proofs.Common.{append-nil}
use Rattle.std.specs.List.{prefix_len}
use Rattle.json.specs.Print.{escape, escape_byte}
use Rattle.json.specs.Run.{is_plain}
use Rattle.json.proofs.Printed.Strings.{escape_to_stop, escape_at, escape_end}

-- a run stands for itself
pub escape_run : (bytes : List ℕ) (at stop : ℕ) → stop ≡ at + prefix_len is_plain (drop at bytes)
    → escape (drop at bytes) ≡ take (stop - at) (drop at bytes) ++ escape (drop stop bytes)
escape_run bytes at stop is =
    sym (append-nil (escape (drop at bytes))) ∙ escape_to_stop bytes at stop [] is
    ∙ ap (λ l. take (stop - at) (drop at bytes) ++ l) (append-nil (escape (drop stop bytes)))

-- and the byte behind it is escaped
pub escape_run_byte : (bytes : List ℕ) (at stop : ℕ) → stop ≡ at + prefix_len is_plain (drop at bytes)
    → stop < length bytes
    → escape (drop at bytes)
    ≡ take (stop - at) (drop at bytes) ++ (escape_byte (get_or bytes stop 0) ++ escape (drop (stop + 1) bytes))
escape_run_byte bytes at stop is l =
    let byte = escape_byte (get_or bytes stop 0) in
    let rest = escape (drop (stop + 1) bytes) in
    let next : escape (drop stop bytes) ≡ byte ++ rest = sym (append-nil (escape (drop stop bytes)))
    ∙ escape_at bytes stop [] l ∙ ap (λ y. byte ++ y) (append-nil rest) in
    escape_run bytes at stop is ∙ ap (λ l. take (stop - at) (drop at bytes) ++ l) next

-- all of it
pub all_plain : (bytes : List ℕ) (at stop : ℕ) → stop ≡ at + prefix_len is_plain (drop at bytes) → length bytes ≤ stop
    → take (stop - at) (drop at bytes) ≡ escape (drop at bytes)
all_plain bytes at stop is l =
    let run = take (stop - at) (drop at bytes) in
    let none : escape (drop stop bytes) ≡ [] = sym (append-nil (escape (drop stop bytes)))
    ∙ escape_end bytes stop [] l in
    sym (escape_run bytes at stop is ∙ ap (λ l. run ++ l) none ∙ append-nil run)
