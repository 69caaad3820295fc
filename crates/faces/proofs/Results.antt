-- THE PROOF of specs/Promises: the fields of `KeepsToTheRules`, each under its name, for any discipline and its runs that have the laws.
use mathlib.Core.Path.{◌≡◌, refl, sym, ap, ◌∙◌, subst}
use mathlib.Core.Bool.{Bool, true, false}
use mathlib.Core.List.{List, [], ◌∷◌}
use Rattle.std.specs.Prelude as code
use Rattle.rules.specs.declared.Packet.{Packet}
use Rattle.rules.specs.Model.{Outcome}
use Rattle.rules.proofs.Sums.{cond_is}
use Rattle.tables.specs.Calls.{calls_from}
use Rattle.tables.specs.Lent.{Tables}
use Rattle.tables.specs.Options.{option_in}
pub use Rattle.tables.proofs.OptionLaws.{option_back}
use Rattle.tables.proofs.CallLaws.{same_outcome}
use Rattle.faces.specs.Promises as F
use Rattle.faces.specs.Promises.{Account, KeepsToTheRules}
use Rattle.faces.proofs.Discipline.{Discipline}

-- whatever a test says
by_test : {P : Type 0} (b : Bool) → (b ≡ false → P) → (b ≡ true → P) → P
by_test false f g = f refl
by_test true f g = g refl

-- the runs of a discipline's rules
pub record Runs (D : Discipline) : Type 1 where
  pub History : Type 0
  pub logged : History → D.Call → Outcome D.State → History
  pub now : History → D.State
  pub run_from : History → List D.Call → History
  pub start : History
  pub run : List D.Call → History
  pub zero_tables : Tables
  pub run_none : (h : History) → run_from h [] ≡ h
  pub run_more : (h : History) (k : D.Call) (ks : List D.Call) → run_from h (k ∷ ks) ≡ run_from (logged h k (D.answer k (now h))) ks
  pub run_is : (ks : List D.Call) → run ks ≡ run_from start ks
  pub now_logged : (h : History) (k : D.Call) (a : Outcome D.State) → now (logged h k a) ≡ a.next
  pub start_sound : D.Sound (now start)
  pub zeros_written : zero_tables ≡ D.written (now start)

module _ (D : Discipline) (R : Runs D) where
  open D use {State, Call, Sound, answer, refused_number, Kept, Told, verdict, number, short, departed, kept, view, kept_of, written, sound, told_of, refusal, tells, leaves, ruled, told_back, kept_told, kept_back, refused_as, is_sound, tables_kept, read_written, written_sound, next_sound, never_1, refuses}
  open R use {History, logged, now, run_from, start, run, zero_tables, run_none, run_more, run_is, now_logged, start_sound, zeros_written}

  abbrev fresh : Kept
  fresh = kept_of (now start)

  abbrev answer_read : Told → Tables → Outcome State
  answer_read = F.answer_read Sound answer refused_number logged run now view kept_of written sound fresh zero_tables tells leaves told_of verdict number short departed kept

  abbrev says : Call → Kept → Tables → Outcome State
  says = F.says Sound answer refused_number logged run now view kept_of written sound fresh zero_tables tells leaves told_of verdict number short departed kept

  abbrev call : Account History Kept → Call → Account History Kept
  call = F.call Sound answer refused_number logged run now view kept_of written sound fresh zero_tables tells leaves told_of verdict number short departed kept

  abbrev calls : List Call → Account History Kept
  calls = F.calls Sound answer refused_number logged run now view kept_of written sound fresh zero_tables tells leaves told_of verdict number short departed kept

  -- ---- one call

  -- where it is not sound: a refusal with number 1, and the tables as they were
  module _ (k : Call) (h : Kept) (t : Tables) (e : sound h t ≡ false) where
    refused_told : tells k h t ≡ refusal h 1 (refused_number k)
    refused_told = (ruled k h t).tells_is ∙ cond_is _ _ e

    refused_left : leaves k h t ≡ t
    refused_left = (ruled k h t).leaves_is ∙ cond_is _ _ e

  -- where it is sound: the rules' answer, written back
  module _ (k : Call) (h : Kept) (t : Tables) (e : sound h t ≡ true) where
    told_as : tells k h t ≡ told_of (answer k (view h t))
    told_as = (ruled k h t).tells_is ∙ cond_is _ _ e

    left_as : leaves k h t ≡ written (answer k (view h t)).next
    left_as = (ruled k h t).leaves_is ∙ cond_is _ _ e

    kept_as : kept (tells k h t) ≡ kept_of (answer k (view h t)).next
    kept_as = ap kept told_as ∙ kept_told (answer k (view h t))

    next_as : Sound (answer k (view h t)).next
    next_as = next_sound k (view h t) (is_sound h t e)

  -- what is told and written of an answer that leaves a sound state is read as this answer
  read_back : (a : Outcome State) → Sound a.next → answer_read (told_of a) (written a.next) ≡ a
  read_back a S i = record {
    verdict = (told_back a).0 i;
    number = (told_back a).1 i;
    short = (told_back a).2 i;
    departed = (told_back a).3 i;
    next = (ap (λ (x : Kept). view x (written a.next)) (kept_told a) ∙ read_written a.next S) i;
  }

  says_as : (k : Call) (h : Kept) (t : Tables) → sound h t ≡ true → says k h t ≡ answer k (view h t)
  says_as k h t e =
      ap (λ (x : Told). answer_read x (leaves k h t)) (told_as k h t e)
      ∙ ap (answer_read (told_of (answer k (view h t)))) (left_as k h t e)
      ∙ read_back (answer k (view h t)) (next_as k h t e)

  -- ---- any calls

  -- the account of a run of the rules
  abbrev account_of : History → Account History Kept
  account_of h = record { history = h; kept = kept_of (now h); tables = written (now h) }

  abbrev after : History → Call → History
  after h k = logged h k (answer k (now h))

  sound_after : (h : History) (k : Call) → Sound (now h) → Sound (now (after h k))
  sound_after h k S = subst Sound (sym (now_logged h k (answer k (now h)))) (next_sound k (now h) S)

  -- a call on what a sound state is written as
  module _ (s : State) (S : Sound s) (k : Call) where
    same : says k (kept_of s) (written s) ≡ answer k s
    same = says_as k (kept_of s) (written s) (written_sound s S) ∙ ap (answer k) (read_written s S)

    same_kept : kept (tells k (kept_of s) (written s)) ≡ kept_of (answer k s).next
    same_kept = kept_as k (kept_of s) (written s) (written_sound s S) ∙ ap (λ (x : State). kept_of (answer k x).next) (read_written s S)

    same_left : leaves k (kept_of s) (written s) ≡ written (answer k s).next
    same_left = left_as k (kept_of s) (written s) (written_sound s S) ∙ ap (λ (x : State). written (answer k x).next) (read_written s S)

  follows_one : (h : History) (k : Call) → Sound (now h) → call (account_of h) k ≡ account_of (after h k)
  follows_one h k S i = record {
    history = ap (logged h k) (same (now h) S k) i;
    kept = (same_kept (now h) S k ∙ ap kept_of (sym (now_logged h k (answer k (now h))))) i;
    tables = (same_left (now h) S k ∙ ap written (sym (now_logged h k (answer k (now h))))) i;
  }

  follows_from : (ks : List Call) (h : History) → Sound (now h) → calls_from call (account_of h) ks ≡ account_of (run_from h ks)
  follows_from [] h S = ap account_of (sym (run_none h))
  follows_from (k ∷ ks) h S =
      ap (λ (g : Account History Kept). calls_from call g ks) (follows_one h k S)
      ∙ follows_from ks (after h k) (sound_after h k S)
      ∙ ap account_of (sym (run_more h k ks))

  blank_is : ◌≡◌ {A = Account History Kept} (record { history = run []; kept = fresh; tables = zero_tables }) (account_of start)
  blank_is i = record { history = (run_is [] ∙ run_none start) i; kept = fresh; tables = zeros_written i }

  follows : (ks : List Call) → calls ks ≡ account_of (run ks)
  follows ks = ap (λ (g : Account History Kept). calls_from call g ks) blank_is ∙ follows_from ks start start_sound ∙ ap account_of (sym (run_is ks))

  sound_from : (ks : List Call) (h : History) → Sound (now h) → Sound (now (run_from h ks))
  sound_from [] h S = subst (λ (x : History). Sound (now x)) (sym (run_none h)) S
  sound_from (k ∷ ks) h S = subst (λ (x : History). Sound (now x)) (sym (run_more h k ks)) (sound_from ks (after h k) (sound_after h k S))

  runs_sound : (ks : List Call) → Sound (now (run ks))
  runs_sound ks = subst (λ (x : History). Sound (now x)) (sym (run_is ks)) (sound_from ks start start_sound)

  pub keeps_to_the_rules : KeepsToTheRules Sound answer refused_number logged run now view kept_of written sound fresh zero_tables tells leaves told_of verdict number short departed kept
  keeps_to_the_rules = record {
    one_outcome = λ k h before told told' after after' D E. same_outcome tells leaves k h before told told' after after' D E;
    test_is_exact = λ h t. (
      λ e. (is_sound h t e, tables_kept h t e),
      λ f. ap (λ (x : Kept). sound x t) (kept_back h t) ∙ ap (sound (kept_of (view h t))) f.1 ∙ written_sound (view h t) f.0,
    );
    written_reads_back = λ s S. read_written s S;
    refusals_change_nothing = λ k h t n.
        by_test (sound h t)
        (λ e.
        let a = refused_told k h t e in
        let f = refused_as h 1 (refused_number k) in
        (ap kept a ∙ f.1, refused_left k h t e, ap number a ∙ f.2, ap (λ (x : code.Option Packet). option_in x) (ap departed a ∙ f.3)))
        (λ e.
        let a = says_as k h t e in
        let f = refuses k (view h t) (λ z. n (ap (λ (x : Outcome State). x.verdict) a ∙ z)) in (
          kept_as k h t e ∙ ap kept_of f.0 ∙ sym (kept_back h t),
          left_as k h t e ∙ ap written f.0 ∙ sym (tables_kept h t e),
          ap (λ (x : Outcome State). x.number) a ∙ f.2,
          ap (λ (x : Outcome State). x.departed) a ∙ f.1,
        ));
    verdict_1_exactly = λ k h t. (
      λ z.
          by_test (sound h t) (λ e. e)
          (λ e. absurd (never_1 k (view h t) (is_sound h t e) (sym (ap (λ (x : Outcome State). x.verdict) (says_as k h t e)) ∙ z))),
      λ e. ap verdict (refused_told k h t e) ∙ (refused_as h 1 (refused_number k)).0,
    );
    sound_is_kept = λ k h t e.
        ap (λ (x : Kept). sound x (leaves k h t)) (kept_as k h t e)
        ∙ ap (sound (kept_of (answer k (view h t)).next)) (left_as k h t e)
        ∙ written_sound (answer k (view h t)).next (next_as k h t e);
    answers_as_the_rules = λ k h t e. (told_as k h t e, says_as k h t e);
    holds_as_of_the_rules = λ k P rule h t e. subst (P (view h t)) (sym (says_as k h t e)) (rule (view h t) (is_sound h t e));
    follows_the_rules = λ ks.
        (ap (λ (g : Account History Kept). g.history) (follows ks), ap (λ (g : Account History Kept). g.kept) (follows ks), ap (λ (g : Account History Kept). g.tables) (follows ks));
    told_as_in_the_run = λ ks k.
        ap (λ (g : Account History Kept). says k g.kept g.tables) (follows ks) ∙ same (now (run ks)) (runs_sound ks) k;
  }
