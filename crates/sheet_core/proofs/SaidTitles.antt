-- The title that words say is one that a sheet may have.
use Rattle.std.proofs.Common.{◌≡◌, ℕ, Bool, true, false, IsTrue, if◌then◌else◌, List, Option, Some, None, option_map, refl, ap, subst, codes}
use Rattle.std.proofs.lemmas.Option.{none-some, same_Some}
use Rattle.command_words.specs.Grammar.{GivenTexts, Reading, all_given, asks, for_help, for_version, reading_of, refused}
use Rattle.job_file.specs.Texts.{is_title}
use Rattle.sheet_job.specs.declared.hidden.Hidden.{Hidden}
use Rattle.sheet_words.specs.Grammar.{sheet_table}
use Rattle.sheet_words.specs.Names.{Goal, ListGoal, Named, TextsSaid, asked_by, asks_of, clash, goal_of, has_empty_name, hidden_by, list_named, named, named_by, said_by, said_in, said_together, sheet}
use Rattle.sheet_words.specs.Titles.{IsProper}

by_title : (b : Bool) (text : List ℕ) (said : Option (List ℕ)) → is_title text ≡ b → (if b then Some (Some text) else None) ≡ Some said → IsProper said
by_title true text said is e = subst IsProper (same_Some (Some text) said e) (λ t same. subst (λ (x : List ℕ). IsTrue (is_title x)) (same_Some text t same) is)
by_title false text said is e = absurd (none-some said e)

said_proper : (o said : Option (List ℕ)) → said_by o ≡ Some said → IsProper said
said_proper None said e = subst IsProper (same_Some None said e) (λ t is. absurd (none-some t is))
said_proper (Some text) said e = by_title (is_title text) text said refl e

title_together : (title number revision material date : Option (Option (List ℕ))) (texts : TextsSaid) → said_together title number revision material date ≡ Some texts → title ≡ Some texts.title
title_together None number revision material date texts e = absurd (none-some texts e)
title_together (Some t) None revision material date texts e = absurd (none-some texts e)
title_together (Some t) (Some n) None material date texts e = absurd (none-some texts e)
title_together (Some t) (Some n) (Some r) None date texts e = absurd (none-some texts e)
title_together (Some t) (Some n) (Some r) (Some m) None texts e = absurd (none-some texts e)
title_together (Some t) (Some n) (Some r) (Some m) (Some d) texts e = ap (λ (s : TextsSaid). Some s.title) (same_Some (record { title = t; number = n; revision = r; material = m; date = d }) texts e)

by_clash : (b : Bool) (made n : Named) → (if b then None else Some made) ≡ Some n → made ≡ n
by_clash true made n e = absurd (none-some n e)
by_clash false made n e = same_Some made n e

named_said : (part job : Option (List ℕ)) (hidden : Option (Option Hidden)) (out : Option Goal) (list plain : Option ListGoal) (texts : Option TextsSaid) (n : Named)
    → named_by part job hidden out list plain texts ≡ Some n → texts ≡ Some n.said
named_said None job hidden out list plain texts n e = absurd (none-some n e)
named_said (Some p) job None out list plain texts n e = absurd (none-some n e)
named_said (Some p) job (Some h) None list plain texts n e = absurd (none-some n e)
named_said (Some p) job (Some h) (Some o) list plain None n e = absurd (none-some n e)
named_said (Some p) job (Some h) (Some o) list plain (Some texts) n e =
    ap (λ (m : Named). Some m.said) (by_clash (clash o list plain) (record { part = p; job = job; out = o; list = list; plain = plain; hidden = h; said = texts }) n e)

given_proper : (given : GivenTexts) (n : Named) → named given ≡ Some n → IsProper n.said.title
given_proper given n e = by (has_empty_name given) e
  where
    by : (b : Bool) → (if b then None
        else named_by (given (codes "part")) (given (codes "job")) (hidden_by (given (codes "hidden"))) (goal_of (given (codes "out"))) (option_map list_named (given (codes "list"))) (option_map list_named (given (codes "plain-job"))) (said_in given))
        ≡ Some n → IsProper n.said.title
    by true e = absurd (none-some n e)
    by false e =
        said_proper (given (codes "title")) n.said.title
        (title_together (said_by (given (codes "title"))) (said_by (given (codes "number"))) (said_by (given (codes "revision"))) (said_by (given (codes "material"))) (said_by (given (codes "date"))) n.said
        (named_said (given (codes "part")) (given (codes "job")) (hidden_by (given (codes "hidden"))) (goal_of (given (codes "out"))) (option_map list_named (given (codes "list"))) (option_map list_named (given (codes "plain-job"))) (said_in given) n e))

by_sheet : (o : Option Named) (n : Named) → option_map sheet o ≡ Some (sheet n) → o ≡ Some n
by_sheet None n e = absurd (none-some (sheet n) e)
by_sheet (Some m) n e = ap (λ (k : Named). Some k) (let same : sheet m ≡ sheet n = same_Some (sheet m) (sheet n) e in let is : m ≡ n = cc in is)

read_proper : (r : Reading) (n : Named) → asks_of r ≡ Some (sheet n) → IsProper n.said.title
read_proper refused n e = absurd (none-some (sheet n) e)
read_proper (asks for_help) n e = absurd (cc)
read_proper (asks for_version) n e = absurd (cc)
read_proper (all_given given) n e = given_proper given n (by_sheet (named given) n e)

pub asked_proper : (words : List (List ℕ)) (n : Named) → asked_by words ≡ Some (sheet n) → IsProper n.said.title
unfolding asked_by
asked_proper words n e = read_proper (reading_of sheet_table words) n e
