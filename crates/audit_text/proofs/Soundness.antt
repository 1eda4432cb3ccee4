-- The plans of a log are good where those of its scenario are.
use Rattle.std.proofs.Common.{◌≡◌, ◌∙◌, ℕ, ◌+◌, Bool, true, false, if◌then◌else◌, List, [], ◌∷◌, ◌++◌, find, length, Option, Some, None, Ok, codes, refl, sym, ap, subst, length-append}
use Rattle.std.specs.Option.{option_map}
use Rattle.process_tree.specs.Making.{same_text}
use Rattle.process_tree.specs.Order.{Each}
use Rattle.process_tree.proofs.Every.{Each-append}
use Rattle.process_tree.specs.declared.entry.Entry.{Entry}
use Rattle.process_tree.specs.declared.plan.Plan.{Plan}
use Rattle.schedule_model.specs.declared.event.Event.{Event}
use Rattle.schedule_model.specs.declared.event.Event.TheVariants.{Start, Act, End}
use Rattle.schedule_model.specs.Histories.{starts}
use Rattle.schedule_model.proofs.Appends.{starts-append}
use Rattle.trace_verify.specs.Lines.{Parts, cut, of_both}
use Rattle.audit_text.specs.Logs.{Log, nothing, with_start, with_act, with_end, plan_named, placed_act, process_of, told_by, after_line, on_or_bad, log_from}
use Rattle.audit_text.specs.Copies.{IsGoodFor, IsSound}

module _ (operations : ℕ) where
  -- one that is found among good ones is good
  found_good : (test : Plan → Bool) (ps : List Plan) (q : Plan) → Each (IsGoodFor operations) ps → find test ps ≡ Some q → IsGoodFor operations q
  found_good test [] q each found = absurd cc
  found_good test (p ∷ ps) q each found = by (test p) (found_good test ps q each.1) found
    where
      by : (b : Bool) → (find test ps ≡ Some q → IsGoodFor operations q) → (if b then Some p else find test ps) ≡ Some q → IsGoodFor operations q
      by true later f = let same : p ≡ q = cc in subst (IsGoodFor operations) same each.0
      by false later f = later f

  -- a start more
  start_sound : (l : Log) (p : Plan) → IsSound operations l → IsGoodFor operations p → IsSound operations (with_start l p)
  start_sound l p sound good = record {
    good = Each-append (IsGoodFor operations) l.started (p ∷ []) sound.good (good, tt);
    one_each =
        length-append l.started (p ∷ [])
        ∙ (ap (λ n. n + 1) sound.one_each
        ∙ (sym (length-append (starts l.events) ((length l.started + 1) ∷ []))
        ∙ ap length (sym (starts-append l.events (Start (length l.started + 1) ∷ [])))));
  }

  -- something that is no start
  more_sound : (l : Log) (e : Event) → starts (e ∷ []) ≡ [] → IsSound operations l → IsSound operations (record { started = l.started; events = l.events ++ e ∷ [] })
  more_sound l e none sound = record {
    good = sound.good;
    one_each =
        sound.one_each
        ∙ ap length (sym (starts-append l.events (e ∷ []) ∙ (ap (λ is. starts l.events ++ is) none ∙ append-none (starts l.events))));
  }
    where
      append-none : (is : List ℕ) → is ++ [] ≡ is
      append-none [] = refl
      append-none (i ∷ is) = ap (λ js. i ∷ js) (append-none is)

  module _ (plans : List Plan) (all : Each (IsGoodFor operations) plans) where
    started_by : (l m : Log) (o : Option Plan) → ((p : Plan) → o ≡ Some p → IsGoodFor operations p) → IsSound operations l → option_map (with_start l) o ≡ Some m → IsSound operations m
    started_by l m None good sound is = absurd cc
    started_by l m (Some p) good sound is =
        let same : with_start l p ≡ m = cc in subst (IsSound operations) same (start_sound l p sound (good p refl))

    acted_by : (l m : Log) (o : Option Entry) → IsSound operations l → option_map (with_act l) o ≡ Some m → IsSound operations m
    acted_by l m None sound is = absurd cc
    acted_by l m (Some e) sound is = let same : with_act l e ≡ m = cc in subst (IsSound operations) same (more_sound l (Act e) refl sound)

    ended_by : (l m : Log) (o : Option ℕ) → IsSound operations l → option_map (with_end l) o ≡ Some m → IsSound operations m
    ended_by l m None sound is = absurd cc
    ended_by l m (Some i) sound is = let same : with_end l i ≡ m = cc in subst (IsSound operations) same (more_sound l (End i) refl sound)

    -- by the first word
    words_sound : (l m : Log) (word rest : List ℕ) → IsSound operations l → told_by plans l word rest ≡ Some m → IsSound operations m
    words_sound l m word rest sound is =
        by (same_text word (codes "start")) (same_text word (codes "do")) (same_text word (codes "undo")) (same_text word (codes "end")) is
      where
        by : (a b c d : Bool)
            → (if a then option_map (with_start l) (plan_named plans rest)
            else (if b then option_map (with_act l) (placed_act l.started false rest)
            else (if c then option_map (with_act l) (placed_act l.started true rest)
            else (if d then option_map (with_end l) (process_of l.started rest) else None)))) ≡ Some m
            → IsSound operations m
        by true b c d f = started_by l m (plan_named plans rest) (λ p found. found_good (λ (q : Plan). same_text q.name rest) plans p all found) sound f
        by false true c d f = acted_by l m (placed_act l.started false rest) sound f
        by false false true d f = acted_by l m (placed_act l.started true rest) sound f
        by false false false true f = ended_by l m (process_of l.started rest) sound f
        by false false false false f = absurd cc

    -- a line more
    line_sound : (l m : Log) (line : List ℕ) → IsSound operations l → after_line plans l line ≡ Some m → IsSound operations m
    line_sound l m [] sound is = let same : l ≡ m = cc in subst (IsSound operations) same sound
    line_sound l m (b ∷ bs) sound is = by (cut 32 (b ∷ bs)) is
      where
        by : (o : Option Parts) → of_both (told_by plans l) o ≡ Some m → IsSound operations m
        by None f = absurd cc
        by (Some p) f = words_sound l m p.0 p.1 sound f

    lines_sound : (lines : List (List ℕ)) (n : ℕ) (l m : Log) → IsSound operations l → log_from plans l n lines ≡ Ok m → IsSound operations m
    lines_sound [] n l m sound is = let same : l ≡ m = cc in subst (IsSound operations) same sound
    lines_sound (line ∷ lines) n l m sound is =
        by (after_line plans l line) (λ k some. line_sound l k line sound some) (λ k good f. lines_sound lines (n + 1) k m good f) is
      where
        by : (o : Option Log) → ((k : Log) → o ≡ Some k → IsSound operations k)
            → ((k : Log) → IsSound operations k → log_from plans k (n + 1) lines ≡ Ok m → IsSound operations m)
            → on_or_bad n (λ k. log_from plans k (n + 1) lines) o ≡ Ok m → IsSound operations m
        by None one later f = absurd cc
        by (Some k) one later f = later k (one k refl) f

    -- what all lines say
    pub log_sound : (n : ℕ) (lines : List (List ℕ)) (m : Log) → log_from plans nothing n lines ≡ Ok m → IsSound operations m
    log_sound n lines m is = lines_sound lines n nothing m (record { good = tt; one_each = refl }) is
