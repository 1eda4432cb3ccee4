-- That words without a fault are steps.
use Rattle.std.proofs.Common.{◌≡◌, inl, inr, ◌≤◌, ◌<◌, ℕ, ℤ, List, [], ◌∷◌, length, Bool, true, false, decimal, None, refl, sym, ap, arith, ◌∙◌, if◌then◌else◌}
use Rattle.std.specs.List.{list_any}
use Rattle.std.specs.Str.Parse.{digits_value}
use Rattle.std.specs.Cmp.Lexicographic.{same_text as texts_are_same}
use Rattle.std.proofs.lemmas.Bool.{and_parts, and_from}
use Rattle.process_tree.specs.Name.{is_name}
use Rattle.process_tree.specs.Making.{same_text, is_amount, are_tries, are_refusals, has_good_options}
use Rattle.process_tree.specs.declared.step.Step.{Step}
use Rattle.process_tree.specs.declared.step.StepKind.{StepKind}
use Rattle.process_tree.specs.declared.step.StepKind.TheVariants.{C, P, R, Cr}
use Rattle.process_text.specs.declared.fault.Fault.{Fault}
use Rattle.text_words.specs.declared.marks.Setting.{Setting}
use Rattle.text_words.specs.declared.marks.Setting.TheVariants.{Tries, Undo, Refuse, UndoRefuse}
use Rattle.text_words.specs.Numbers.{is_number, is_key, is_amount_word}
use Rattle.text_words.specs.Marks.{kind_word, settings, setting_word, default_of, takes, is_setting_number}
use Rattle.process_text.specs.Grammar.{IsSetting, AreSettings, IsStep}
use Rattle.process_text.specs.FirstFault.{Before, Place, Turn, goes_on, stops, with_name, told_from, told_after, at_step_name, at_operation, at_key, at_amount, at_settings, at_number, turn_behind}
use Rattle.text_words.proofs.NumberWords.{passed_is_number, amount_found}
use Rattle.text_words.proofs.Settings.{default_is_good}
use Rattle.process_text.proofs.Unique.{step_of}

-- where nothing is told, the test was passed
pub passes : (c : Bool) (b : Before) (p : Place) (f : Fault) (ws : List (List ℕ)) → told_after (if c then goes_on b p else stops f) ws (λ a q. told_from a q ws) ≡ None → (c ≡ true) × (told_from b p ws ≡ None)
passes true b p f ws e = (refl, e)
passes false b p f ws e = absurd (cc)

-- the same of a name that isn't taken
pub name_passes : (named taken : Bool) (b : Before) (p : Place) (f g : Fault) (ws : List (List ℕ)) → told_after (if named then (if taken then stops f else goes_on b p) else stops g) ws (λ a q. told_from a q ws) ≡ None
    → (named ≡ true) × (taken ≡ false) × (told_from b p ws ≡ None)
name_passes true true b p f g ws e = absurd (cc)
name_passes true false b p f g ws e = (refl, refl, e)
name_passes false taken b p f g ws e = absurd (cc)

-- An option that was found, or left out.
pub record OptionFound (b : Before) (x : Setting) (xs : List Setting) (ws : List (List ℕ)) : Type 0 where
  pub number : ℕ
  pub after : List (List ℕ)
  pub is : IsSetting x number ws after
  pub good : takes x number ≡ true
  pub on : told_from b (at_settings xs) after ≡ None
  pub few : length after ≤ length ws

number_found : (b : Before) (x : Setting) (xs : List Setting) (w : List ℕ) (ws : List (List ℕ)) → w ≡ setting_word x → told_from b (at_number x xs) ws ≡ None → OptionFound b x xs (w ∷ ws)
number_found b x xs w [] is e = absurd (cc)
number_found b x xs w (v ∷ ws) is e =
    let test = passes (is_setting_number x v) b (at_settings xs) _ ws e in
    let parts = and_parts (is_number 99 v) (takes x (digits_value 10 v)) test.0 in
    record {
      number = digits_value 10 v;
      after = ws;
      is = inl (ap (λ u. u ∷ v ∷ ws) is ∙ ap (λ u. setting_word x ∷ u ∷ ws) (passed_is_number 99 v parts.0).0);
      good = parts.1;
      on = test.1;
      few = omega arith;
    }

option_found : (b : Before) (x : Setting) (xs : List Setting) (ws : List (List ℕ)) → told_from b (at_settings (x ∷ xs)) ws ≡ None → OptionFound b x xs ws
option_found b x xs [] e = absurd (cc)
option_found b x xs (w ∷ ws) e = by_test (same_text w (setting_word x)) refl
  where
    turn : Bool → Turn
    turn c = if c then goes_on b (at_number x xs) else turn_behind b xs w

    by_test : (c : Bool) → same_text w (setting_word x) ≡ c → OptionFound b x xs (w ∷ ws)
    by_test true is = number_found b x xs w ws (texts_are_same w (setting_word x) (sym is)) (sym (ap (λ c. told_after (if c then goes_on b (at_number x xs) else turn_behind b xs w) ws (λ a q. told_from a q ws)) is) ∙ e)
    by_test false is = record {
      number = default_of x;
      after = w ∷ ws;
      is = inr (refl, refl, is);
      good = default_is_good x;
      on = sym (ap (λ c. told_after (if c then goes_on b (at_number x xs) else turn_behind b xs w) ws (λ a q. told_from a q ws)) is) ∙ e;
      few = omega arith;
    }

-- The options of a step.
pub record OptionsFound (k : StepKind) (b : Before) (ws : List (List ℕ)) : Type 0 where
  pub tries : ℕ
  pub undo_tries : ℕ
  pub refuse : ℕ
  pub undo_refuse : ℕ
  pub after : List (List ℕ)
  pub good : (name op : List ℕ) (key : ℕ) (amount : ℤ) → has_good_options k (step_of k name op key amount tries undo_tries refuse undo_refuse) ≡ true
  pub are : (name op : List ℕ) (key : ℕ) (amount : ℤ) → AreSettings (settings k) (step_of k name op key amount tries undo_tries refuse undo_refuse) ws after
  pub on : told_from b (at_settings []) after ≡ None
  pub few : length after ≤ length ws

options_found : (k : StepKind) (b : Before) (ws : List (List ℕ)) → told_from b (at_settings (settings k)) ws ≡ None → OptionsFound k b ws
options_found C b ws e =
    let u = option_found b Undo (Refuse ∷ UndoRefuse ∷ []) ws e in
    let r = option_found b Refuse (UndoRefuse ∷ []) u.after u.on in
    let v = option_found b UndoRefuse [] r.after r.on in
    let few1 = u.few in
    let few2 = r.few in
    let few3 = v.few in
    record {
      tries = 3;
      undo_tries = u.number;
      refuse = r.number;
      undo_refuse = v.number;
      after = v.after;
      good = λ name op key amount. and_from _ (are_refusals v.number) (and_from _ (are_refusals r.number) (and_from true (are_tries u.number) refl u.good) r.good) v.good;
      are = λ name op key amount. (u.after, u.is, (r.after, r.is, (v.after, v.is, refl)));
      on = v.on;
      few = omega arith;
    }
options_found P b ws e =
    let r = option_found b Refuse [] ws e in
    record {
      tries = 3;
      undo_tries = 3;
      refuse = r.number;
      undo_refuse = 0;
      after = r.after;
      good = λ name op key amount. and_from _ true (and_from true (are_refusals r.number) refl r.good) refl;
      are = λ name op key amount. (r.after, r.is, refl);
      on = r.on;
      few = r.few;
    }
options_found R b ws e =
    let t = option_found b Tries (Refuse ∷ []) ws e in
    let r = option_found b Refuse [] t.after t.on in
    let few1 = t.few in
    let few2 = r.few in
    record {
      tries = t.number;
      undo_tries = 3;
      refuse = r.number;
      undo_refuse = 0;
      after = r.after;
      good = λ name op key amount. and_from _ true (and_from _ (are_refusals r.number) (and_from (are_tries t.number) true t.good refl) r.good) refl;
      are = λ name op key amount. (t.after, t.is, (r.after, r.is, refl));
      on = r.on;
      few = omega arith;
    }
options_found Cr b ws e =
    let t = option_found b Tries (Undo ∷ Refuse ∷ UndoRefuse ∷ []) ws e in
    let u = option_found b Undo (Refuse ∷ UndoRefuse ∷ []) t.after t.on in
    let r = option_found b Refuse (UndoRefuse ∷ []) u.after u.on in
    let v = option_found b UndoRefuse [] r.after r.on in
    let few1 = t.few in
    let few2 = u.few in
    let few3 = r.few in
    let few4 = v.few in
    record {
      tries = t.number;
      undo_tries = u.number;
      refuse = r.number;
      undo_refuse = v.number;
      after = v.after;
      good = λ name op key amount. and_from _ (are_refusals v.number) (and_from _ (are_refusals r.number) (and_from (are_tries t.number) (are_tries u.number) t.good u.good) r.good) v.good;
      are = λ name op key amount. (t.after, t.is, (u.after, u.is, (r.after, r.is, (v.after, v.is, refl))));
      on = v.on;
      few = omega arith;
    }

-- A step that was found behind the word of its kind.
pub record StepFound (k : StepKind) (b : Before) (ws : List (List ℕ)) : Type 0 where
  pub step : Step
  pub after : List (List ℕ)
  pub is : IsStep step (kind_word k ∷ ws) after
  pub new : list_any (same_text step.name) b.names ≡ false
  pub on : told_from (with_name b step.name) (at_settings []) after ≡ None
  pub few : length after < length ws

pub step_found : (k : StepKind) (b : Before) (ws : List (List ℕ)) → told_from b (at_step_name k) ws ≡ None → StepFound k b ws
step_found k b [] e = absurd (cc)
step_found k b (name ∷ []) e = let n = name_passes (is_name name) (list_any (same_text name) b.names) (with_name b name) (at_operation k) _ _ [] e in absurd (let f = n.2 in cc)
step_found k b (name ∷ op ∷ []) e =
    let n = name_passes (is_name name) (list_any (same_text name) b.names) (with_name b name) (at_operation k) _ _ (op ∷ []) e in
    let o = passes (is_name op) (with_name b name) (at_key k) _ [] n.2 in absurd (let f = o.1 in cc)
step_found k b (name ∷ op ∷ key ∷ []) e =
    let n = name_passes (is_name name) (list_any (same_text name) b.names) (with_name b name) (at_operation k) _ _ (op ∷ key ∷ []) e in
    let o = passes (is_name op) (with_name b name) (at_key k) _ (key ∷ []) n.2 in
    let y = passes (is_key key) (with_name b name) (at_amount k) _ [] o.1 in absurd (let f = y.1 in cc)
step_found k b (name ∷ op ∷ key ∷ amount ∷ ws) e =
    let n = name_passes (is_name name) (list_any (same_text name) b.names) (with_name b name) (at_operation k) _ _ (op ∷ key ∷ amount ∷ ws) e in
    let o = passes (is_name op) (with_name b name) (at_key k) _ (key ∷ amount ∷ ws) n.2 in
    let y = passes (is_key key) (with_name b name) (at_amount k) _ (amount ∷ ws) o.1 in
    let a = passes (is_amount_word amount) (with_name b name) (at_settings (settings k)) _ ws y.1 in
    let number = passed_is_number 4294967295 key y.0 in
    let z = amount_found amount a.0 in
    let x = options_found k (with_name b name) ws a.1 in
    let few = x.few in
    let s = step_of k name op (digits_value 10 key) z.0 x.tries x.undo_tries x.refuse x.undo_refuse in
    record {
      step = s;
      after = x.after;
      is = record {
        name_is = n.0;
        op_is = o.0;
        key_is = number.1;
        good = and_from (is_amount z.0) (has_good_options k s) z.2 (x.good name op (digits_value 10 key) z.0);
        behind = ws;
        words_are = ap (λ w. kind_word k ∷ name ∷ op ∷ w ∷ amount ∷ ws) number.0 ∙ ap (λ w. kind_word k ∷ name ∷ op ∷ decimal (digits_value 10 key) ∷ w ∷ ws) z.1;
        settings_are = x.are name op (digits_value 10 key) z.0;
      };
      new = n.1;
      on = x.on;
      few = omega arith;
    }
