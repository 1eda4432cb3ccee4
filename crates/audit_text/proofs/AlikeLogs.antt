-- Behind plans that are equal a log says the same.
use Rattle.std.proofs.Common.{◌≡◌, ◌∙◌, ℕ, zero, suc, ◌+◌, Bool, true, false, if◌then◌else◌, List, [], ◌∷◌, ◌++◌, length, map, slice_index_or, Option, Some, None, option_and_then, Ok, codes, refl, ap, subst}
use Rattle.std.specs.List.{slice_get}
use Rattle.std.specs.Option.{option_map}
use Rattle.process_tree.specs.Blocks.{Outline, outline}
use Rattle.process_tree.specs.Entries.{entry_of, undo_of}
use Rattle.process_tree.specs.Form.{AreEqualPlans}
use Rattle.process_tree.specs.Making.{same_text}
use Rattle.process_tree.specs.declared.entry.Entry.{Entry}
use Rattle.process_tree.specs.declared.plan.Plan.{Plan}
use Rattle.schedule_model.specs.declared.event.Event.TheVariants.{Start, Act, End}
use Rattle.trace_verify.specs.Lines.{Parts, cut, of_both}
use Rattle.trace_verify.specs.Forms.{number_of}
use Rattle.session_text.specs.Sessions.{Mark, mark_of}
use Rattle.audit_text.specs.Logs.{Log, Reading, nothing, with_start, with_act, with_end, plan_named, plan_at, place_from, step_named, named_act, act_of, act_at, placed_act, started_at, process_of, told_by, after_line, on_or_bad, log_from, log_behind, log_of}
use Rattle.audit_text.specs.Copies.{AreCopies}
use Rattle.audit_text.proofs.CopiedPlans.{same_count}

-- Two logs tell the same, but for where their plans lie.
pub record AreAlike (l m : Log) : Type 0 where
  pub started : AreCopies l.started m.started
  pub events : l.events ≡ m.events

-- a plan is equal to another, or there is neither
abbrev AreEqualOptions : Option Plan → Option Plan → Type 0
AreEqualOptions None None = Unit
AreEqualOptions None (Some q) = ⊥
AreEqualOptions (Some p) None = ⊥
AreEqualOptions (Some p) (Some q) = AreEqualPlans p q

-- so of logs
abbrev AreAlikeOptions : Option Log → Option Log → Type 0
AreAlikeOptions None None = Unit
AreAlikeOptions None (Some m) = ⊥
AreAlikeOptions (Some l) None = ⊥
AreAlikeOptions (Some l) (Some m) = AreAlike l m

-- the plans of one name are equal
named_alike : (name : List ℕ) (ps qs : List Plan) → AreCopies ps qs → AreEqualOptions (plan_named ps name) (plan_named qs name)
named_alike name [] [] equal = tt
named_alike name [] (q ∷ qs) equal = absurd equal
named_alike name (p ∷ ps) [] equal = absurd equal
named_alike name (p ∷ ps) (q ∷ qs) equal =
    subst (λ b. AreEqualOptions (if same_text p.name name then Some p else plan_named ps name) (if b then Some q else plan_named qs name))
    (ap (λ (w : List ℕ). same_text w name) equal.0.name)
    (by (same_text p.name name) (named_alike name ps qs equal.1))
  where
    by : (b : Bool) → AreEqualOptions (plan_named ps name) (plan_named qs name) → AreEqualOptions (if b then Some p else plan_named ps name) (if b then Some q else plan_named qs name)
    by true later = equal.0
    by false later = later

-- and so are those at one place
at_alike : (ps qs : List Plan) (i : ℕ) → AreCopies ps qs → AreEqualOptions (slice_get ps i) (slice_get qs i)
at_alike [] [] i equal = tt
at_alike [] (q ∷ qs) i equal = absurd equal
at_alike (p ∷ ps) [] i equal = absurd equal
at_alike (p ∷ ps) (q ∷ qs) zero equal = equal.0
at_alike (p ∷ ps) (q ∷ qs) (suc i) equal = at_alike ps qs i equal.1

process_alike : (ps qs : List Plan) (i : ℕ) → AreCopies ps qs → AreEqualOptions (plan_at ps i) (plan_at qs i)
process_alike ps qs zero equal = tt
process_alike ps qs (suc i) equal = at_alike ps qs i equal

-- Equal plans have the same entries.
step_same : (p q : Plan) → AreEqualPlans p q → (i b : ℕ) → entry_of p i b ≡ entry_of q i b
step_same p q equal i b =
    ap (λ (o : Outline). record { process = i; step = b; op = slice_index_or p.ops b 0; key = slice_index_or (map (λ s. s.key) o.steps) b 0; undo = false }) equal.says
    ∙ ap (λ ops. record { process = i; step = b; op = slice_index_or ops b 0; key = slice_index_or (map (λ s. s.key) (outline q.tree).steps) b 0; undo = false }) equal.ops

act_same : (undo : Bool) (p q : Plan) → AreEqualPlans p q → (i b : ℕ) → act_of undo p i b ≡ act_of undo q i b
act_same false p q equal i b = step_same p q equal i b
act_same true p q equal i b = ap undo_of (step_same p q equal i b)

named_same : (undo : Bool) (i : ℕ) (name : List ℕ) (p q : Plan) → AreEqualPlans p q → named_act undo i name p ≡ named_act undo i name q
named_same undo i name p q equal =
    ap (λ (o : Outline). option_map (act_of undo p i) (place_from 0 name (map (λ s. s.name) o.steps))) equal.says
    ∙ ap (λ (f : ℕ → Entry). option_map f (step_named name q)) (λ j b. act_same undo p q equal i b j)

at_same : (undo : Bool) (name : List ℕ) (ps qs : List Plan) (i : ℕ) → AreCopies ps qs → act_at ps undo name i ≡ act_at qs undo name i
at_same undo name ps qs i equal = by (plan_at ps i) (plan_at qs i) (process_alike ps qs i equal)
  where
    by : (o x : Option Plan) → AreEqualOptions o x → option_and_then (named_act undo i name) o ≡ option_and_then (named_act undo i name) x
    by None None is = refl
    by None (Some q) is = absurd is
    by (Some p) None is = absurd is
    by (Some p) (Some q) is = named_same undo i name p q is

placed_same : (undo : Bool) (place : List ℕ) (ps qs : List Plan) → AreCopies ps qs → placed_act ps undo place ≡ placed_act qs undo place
placed_same undo place ps qs equal = by (cut 46 place)
  where
    by : (o : Option Parts) → of_both (λ i name. option_and_then (act_at ps undo name) (number_of i)) o ≡ of_both (λ i name. option_and_then (act_at qs undo name) (number_of i)) o
    by None = refl
    by (Some p) = ap (λ (f : ℕ → Option Entry). option_and_then f (number_of p.0)) (λ j i. at_same undo p.1 ps qs i equal j)

started_same : (ps qs : List Plan) (i : ℕ) → AreCopies ps qs → started_at ps i ≡ started_at qs i
started_same ps qs i equal = by (plan_at ps i) (plan_at qs i) (process_alike ps qs i equal)
  where
    by : (o x : Option Plan) → AreEqualOptions o x → option_map (λ _. i) o ≡ option_map (λ _. i) x
    by None None is = refl
    by None (Some q) is = absurd is
    by (Some p) None is = absurd is
    by (Some p) (Some q) is = refl

process_same : (word : List ℕ) (ps qs : List Plan) → AreCopies ps qs → process_of ps word ≡ process_of qs word
process_same word ps qs equal = ap (λ (f : ℕ → Option ℕ). option_and_then f (number_of word)) (λ j i. started_same ps qs i equal j)

-- What a line makes of alike logs is alike.
copies_more : (ps qs : List Plan) (p q : Plan) → AreCopies ps qs → AreEqualPlans p q → AreCopies (ps ++ p ∷ []) (qs ++ q ∷ [])
copies_more [] [] p q equal is = (is, tt)
copies_more [] (y ∷ qs) p q equal is = absurd equal
copies_more (x ∷ ps) [] p q equal is = absurd equal
copies_more (x ∷ ps) (y ∷ qs) p q equal is = (equal.0, copies_more ps qs p q equal.1 is)

start_alike : (l m : Log) (o x : Option Plan) → AreAlike l m → AreEqualOptions o x → AreAlikeOptions (option_map (with_start l) o) (option_map (with_start m) x)
start_alike l m None None alike is = tt
start_alike l m None (Some q) alike is = absurd is
start_alike l m (Some p) None alike is = absurd is
start_alike l m (Some p) (Some q) alike is = record {
  started = copies_more l.started m.started p q alike.started is;
  events =
      ap (λ es. es ++ Start (length l.started + 1) ∷ []) alike.events
      ∙ ap (λ n. m.events ++ Start (n + 1) ∷ []) (same_count l.started m.started alike.started);
}

act_alike : (l m : Log) (o x : Option Entry) → AreAlike l m → o ≡ x → AreAlikeOptions (option_map (with_act l) o) (option_map (with_act m) x)
act_alike l m o x alike is = subst (λ y. AreAlikeOptions (option_map (with_act l) o) (option_map (with_act m) y)) is (by o)
  where
    by : (y : Option Entry) → AreAlikeOptions (option_map (with_act l) y) (option_map (with_act m) y)
    by None = tt
    by (Some e) = record { started = alike.started; events = ap (λ es. es ++ Act e ∷ []) alike.events }

end_alike : (l m : Log) (o x : Option ℕ) → AreAlike l m → o ≡ x → AreAlikeOptions (option_map (with_end l) o) (option_map (with_end m) x)
end_alike l m o x alike is = subst (λ y. AreAlikeOptions (option_map (with_end l) o) (option_map (with_end m) y)) is (by o)
  where
    by : (y : Option ℕ) → AreAlikeOptions (option_map (with_end l) y) (option_map (with_end m) y)
    by None = tt
    by (Some i) = record { started = alike.started; events = ap (λ es. es ++ End i ∷ []) alike.events }

-- the other log of these lines, and that it is alike
pub record HasAlike (said : Reading) (l : Log) : Type 0 where
  pub other : Log
  pub is : said ≡ Ok other
  pub alike : AreAlike l other

module _ (ps qs : List Plan) (equal : AreCopies ps qs) where
  words_alike : (l m : Log) (word rest : List ℕ) → AreAlike l m → AreAlikeOptions (told_by ps l word rest) (told_by qs m word rest)
  words_alike l m word rest alike =
      by (same_text word (codes "start")) (same_text word (codes "do")) (same_text word (codes "undo")) (same_text word (codes "end"))
    where
      by : (a b c d : Bool) → AreAlikeOptions
          (if a then option_map (with_start l) (plan_named ps rest)
          else (if b then option_map (with_act l) (placed_act l.started false rest)
          else (if c then option_map (with_act l) (placed_act l.started true rest)
          else (if d then option_map (with_end l) (process_of l.started rest) else None))))
          (if a then option_map (with_start m) (plan_named qs rest)
          else (if b then option_map (with_act m) (placed_act m.started false rest)
          else (if c then option_map (with_act m) (placed_act m.started true rest)
          else (if d then option_map (with_end m) (process_of m.started rest) else None))))
      by true b c d = start_alike l m (plan_named ps rest) (plan_named qs rest) alike (named_alike rest ps qs equal)
      by false true c d = act_alike l m (placed_act l.started false rest) (placed_act m.started false rest) alike (placed_same false rest l.started m.started alike.started)
      by false false true d = act_alike l m (placed_act l.started true rest) (placed_act m.started true rest) alike (placed_same true rest l.started m.started alike.started)
      by false false false true = end_alike l m (process_of l.started rest) (process_of m.started rest) alike (process_same rest l.started m.started alike.started)
      by false false false false = tt

  line_alike : (l m : Log) (line : List ℕ) → AreAlike l m → AreAlikeOptions (after_line ps l line) (after_line qs m line)
  line_alike l m [] alike = alike
  line_alike l m (b ∷ bs) alike = by (cut 32 (b ∷ bs))
    where
      by : (o : Option Parts) → AreAlikeOptions (of_both (told_by ps l) o) (of_both (told_by qs m) o)
      by None = tt
      by (Some p) = words_alike l m p.0 p.1 alike

  lines_alike : (lines : List (List ℕ)) (n : ℕ) (l m k : Log) → AreAlike l m → log_from ps l n lines ≡ Ok k → HasAlike (log_from qs m n lines) k
  lines_alike [] n l m k alike is =
      let same : l ≡ k = cc in record { other = m; is = refl; alike = subst (λ x. AreAlike x m) same alike }
  lines_alike (line ∷ lines) n l m k alike is =
      by (after_line ps l line) (after_line qs m line) (line_alike l m line alike) (λ y z are f. lines_alike lines (n + 1) y z k are f) is
    where
      by : (o x : Option Log) → AreAlikeOptions o x
          → ((y z : Log) → AreAlike y z → log_from ps y (n + 1) lines ≡ Ok k → HasAlike (log_from qs z (n + 1) lines) k)
          → on_or_bad n (λ y. log_from ps y (n + 1) lines) o ≡ Ok k → HasAlike (on_or_bad n (λ y. log_from qs y (n + 1) lines) x) k
      by None x are later f = absurd cc
      by (Some y) None are later f = absurd are
      by (Some y) (Some z) are later f = later y z are f

  -- So of a whole text.
  pub text_alike : (text : List ℕ) (l : Log) → log_of ps text ≡ Ok l → HasAlike (log_of qs text) l
  text_alike text l is = by (mark_of text) is
    where
      by : (o : Option Mark) → log_behind ps o ≡ Ok l → HasAlike (log_behind qs o) l
      by None f = let same : nothing ≡ l = cc in record { other = nothing; is = refl; alike = subst (λ x. AreAlike x nothing) same (record { started = tt; events = refl }) }
      by (Some m) f = lines_alike m.lines (m.number + 1) nothing nothing l (record { started = tt; events = refl }) f
