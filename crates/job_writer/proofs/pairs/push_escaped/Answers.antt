use Rattle.std.proofs.Common.{◌≡◌, ℕ, ◌+◌, ◌<◌, ◌++◌, List, length, get_or, drop, string_bytes, sym, ap, ◌∙◌, arith, append_assoc, append-nil}
use Rattle.std.proofs.lemmas.Iterator.{YieldsList-from_chars}
use Rattle.std.proofs.lemmas.Iterator.Consumers.{YieldsList-turn, YieldsList-end}
use Rattle.std.proofs.lemmas.List.{at_drop_more, at_drop_all, length_push}
use Rattle.std.specs.List.{flat_map}
use Rattle.std.specs.Str.{chars}
use Rattle.job_writer.specs.Pairs.{escaped_char}
use Rattle.job_writer.proofs.pairs.push_escaped.Goals as goal

-- one more character is written
one_more : (cs text new all : List ℕ) (k n c : ℕ) → k < length cs → n ≡ k + 1 → c ≡ get_or cs k c → new ≡ text ++ escaped_char c → text ++ flat_map escaped_char (drop k cs) ≡ all
    → new ++ flat_map escaped_char (drop n cs) ≡ all
one_more cs text new all k n c h next is written whole =
    rw (written, next) (append_assoc text (escaped_char c) (flat_map escaped_char (drop (k + 1) cs)) ∙ ap (λ (x : ℕ). text ++ (escaped_char x ++ flat_map escaped_char (drop (k + 1) cs))) is
    ∙ sym (at_drop_more (λ (xs : List ℕ). text ++ flat_map escaped_char xs) cs k c h) ∙ whole)

pub loop-c-preserved : goal.loop-c-preserved
loop-c-preserved c =
    let turn = YieldsList-turn (YieldsList-from_chars c.args.title.now c.utf8.title cc) c.loop-c.yielded _ c.loop-c.yielded_by _ _ c.in-Some.c c.in-Some.is c.next.ensures.steps in
    one_more (chars c.args.title.now) (string_bytes c.loop-c.text) _ _ (length c.loop-c.yielded) _ c.in-Some.c turn.0 (length_push c.loop-c.yielded c.in-Some.c) turn.1 c.in_ok-push_char.ensures c.loop-c.invariant

pub returns : goal.returns
returns c =
    let end = YieldsList-end (YieldsList-from_chars c.args.title.now c.utf8.title cc) c.loop-c.yielded _ c.loop-c.yielded_by _ _ c.in-None.is c.next.ensures.steps in
    let none = at_drop_all (λ (xs : List ℕ). string_bytes c.loop-c.text ++ flat_map escaped_char xs) (chars c.args.title.now) (length c.loop-c.yielded) (omega (arith, end.1)) in
    sym (append-nil (string_bytes c.loop-c.text)) ∙ sym none ∙ c.loop-c.invariant
