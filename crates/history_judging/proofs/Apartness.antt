-- What stands against an event of a legal history, by the tables.
use Rattle.std.proofs.Common.{◌≡◌, ⊎_elim, ℕ, false, eqb, ◌&&◌, List, ◌++◌, sym, ap, ◌∙◌, subst}
use Rattle.std.specs.Bool.{IsTrue}
use Rattle.std.proofs.lemmas.Bool.{and_from, and_parts, eq-eqb, eqb-true, false≢true}
use Rattle.process_tree.specs.declared.entry.Entry.{Entry}
use Rattle.schedule_model.specs.declared.event.Event.{Event}
use Rattle.schedule_model.specs.Conflict.{ConflictRelation, conflict}
use Rattle.schedule_model.specs.Course.{Course}
use Rattle.schedule_model.specs.Histories.{is_in, net}
use Rattle.schedule_model.specs.Holdings.{active_net, at_rest, holders}
use Rattle.schedule_model.specs.Legal.{is_legal}
use Rattle.schedule_model.proofs.Apart.{Apart, Apart-filter, net-apart}
use Rattle.schedule_model.proofs.Clear.{EntriesApart, NetApart, OwedApart, RestApart, among_active_net, in_active_net}
use Rattle.schedule_model.proofs.Members.{Among, among-append, among-left, among-right, not_any}
use Rattle.history_judging.specs.Conflicting.{any_conflicts, conflicts_with_any, conflicts_in_front}
use Rattle.history_judging.specs.Keeping.{IsKept, Tables}
use Rattle.history_judging.proofs.StandBehind.{behind_of, in_turn-behind}
use Rattle.history_judging.proofs.Tables.{among-owed, in_owed, net-is}
use Rattle.schedule_rules.proofs.ListTests.{none_of_all, not_passed}

module _ (table : ConflictRelation) (courses : List Course) (h : List Event) (t : Tables) (legal : IsTrue (is_legal table courses h)) (kept : IsKept courses h t) where
  abbrev es : List Entry
  es = active_net (at_rest courses h)

  -- what stands of active processes is of different steps
  pub apart : Apart es
  apart = Apart-filter (λ (e : Entry). is_in e.process (holders (at_rest courses h))) (net h) (net-apart table courses h legal)

  same_net : t.net ≡ es
  same_net = net-is table courses h t legal kept

  -- What is owed.

  pub owed-apart : (b : Entry) → conflicts_with_any table b t.owed ≡ false → OwedApart table courses h b
  owed-apart b none k s goes owes = none_of_all (conflict table b) s t.owed none (in_owed table courses h t legal kept k s goes owes)

  pub apart-owed : (b : Entry) → OwedApart table courses h b → conflicts_with_any table b t.owed ≡ false
  apart-owed b apart' = not_any (conflict table b) t.owed (λ s is. let found = among-owed table courses h t legal kept s is in apart' s.process s found.0 found.1)

  -- What stands of active processes.

  pub net-apart' : (b : Entry) → conflicts_with_any table b t.net ≡ false → NetApart table courses h b
  net-apart' b none x there goes = none_of_all (conflict table b) x t.net none (subst (Among x) (sym same_net) (in_active_net courses h x there goes))

  pub apart-net : (b : Entry) → NetApart table courses h b → conflicts_with_any table b t.net ≡ false
  apart-net b apart' = not_any (conflict table b) t.net (λ x is. let found = among_active_net courses h x (subst (Among x) same_net is) in apart' x found.0 found.1)

  -- Both, of each of these steps.

  pub rest-apart : (bs : List Entry) → any_conflicts table bs (t.net ++ t.owed) ≡ false → RestApart table courses h bs
  rest-apart bs none s is =
      let none_of : conflicts_with_any table s (t.net ++ t.owed) ≡ false = none_of_all (λ b. conflicts_with_any table b (t.net ++ t.owed)) s bs none is in (
        net-apart' s (not_any (conflict table s) t.net (λ x there. none_of_all (conflict table s) x (t.net ++ t.owed) none_of (among-left x t.net t.owed there))),
        owed-apart s (not_any (conflict table s) t.owed (λ x there. none_of_all (conflict table s) x (t.net ++ t.owed) none_of (among-right x t.net t.owed there))),
      )

  pub apart-rest : (bs : List Entry) → RestApart table courses h bs → any_conflicts table bs (t.net ++ t.owed) ≡ false
  apart-rest bs apart' =
      not_any (λ b. conflicts_with_any table b (t.net ++ t.owed)) bs
      (λ s is.
      let parts = apart' s is in
      not_any (conflict table s) (t.net ++ t.owed)
      (λ x there. ⊎_elim
      (λ stands. none_of_all (conflict table s) x t.net (apart-net s parts.0) stands)
      (λ owes. none_of_all (conflict table s) x t.owed (apart-owed s parts.1) owes)
      (among-append x t.net t.owed there)))

  -- What stands in front of a process's entries.

  pub front-apart : (i : ℕ) → conflicts_in_front table i t.net ≡ false → EntriesApart table courses h i
  front-apart i none x y front back own =
      not_passed (conflict table y x)
      (λ clash. false≢true (sym (sym (ap (conflicts_in_front table i) same_net) ∙ none)
      ∙ in_turn-behind (λ x y. eqb y.process i && conflict table y x) es x y apart front back (and_from (eqb y.process i) (conflict table y x) (eq-eqb y.process i own) clash)))

  pub apart-front : (i : ℕ) → EntriesApart table courses h i → conflicts_in_front table i t.net ≡ false
  apart-front i apart' =
      ap (conflicts_in_front table i) same_net
      ∙ not_passed (conflicts_in_front table i es)
      (λ is.
      let b = behind_of (λ x y. eqb y.process i && conflict table y x) es apart is in
      let parts = and_parts (eqb b.second.process i) (conflict table b.second b.first) b.is in
      false≢true (sym (apart' b.first b.second b.there b.back (eqb-true b.second.process i parts.0)) ∙ parts.1))
