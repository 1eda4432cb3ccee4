-- What closes a circle after a legal history, by the tables.
use Rattle.std.proofs.Common.{◌≡◌, ℕ, true, false, not, eqb, ◌&&◌, List, [], ◌++◌, map, filter, sym, ap, ◌∙◌, subst, append-nil}
use Rattle.std.specs.Bool.{IsTrue}
use Rattle.std.specs.List.{list_any}
use Rattle.std.proofs.lemmas.Bool.{and_from, and_parts, eqb-true, false≢true}
use Rattle.process_tree.specs.declared.entry.Entry.{Entry}
use Rattle.schedule_model.specs.declared.event.Event.{Event}
use Rattle.schedule_model.specs.Conflict.{ConflictRelation, conflict}
use Rattle.schedule_model.specs.Course.{Course}
use Rattle.schedule_model.specs.Graph.{Arrow, Walk, one_arrow, and_then}
use Rattle.schedule_model.specs.Histories.{is_active, is_in}
use Rattle.schedule_model.specs.Holdings.{active_net, arrow, at_rest, behind, holders, reaches, running_steps}
use Rattle.schedule_model.specs.Legal.{is_legal}
use Rattle.schedule_model.proofs.Apart.{Apart}
use Rattle.schedule_model.proofs.Behind.{among_behind}
use Rattle.schedule_model.proofs.Clear.{ClosesNoCircle, all_running-at_rest, among_active_net, is_holder}
use Rattle.schedule_model.proofs.Members.{Among, any-among, among-any, in_map, is_in-among, not_any}
use Rattle.schedule_model.proofs.Walks.{leads-from_walk, walk-from_leads}
use Rattle.history_judging.specs.Conflicting.{arrow_among, closes_circle, leads_among}
use Rattle.history_judging.specs.Keeping.{IsKept, Tables}
use Rattle.history_judging.proofs.StandBehind.{behind_of, in_turn-behind}
use Rattle.history_judging.proofs.Tables.{net-is}
use Rattle.schedule_rules.proofs.ListTests.{both_ways, none_of_all, not_passed}
use Rattle.history_judging.proofs.Apartness as apartness

-- a walk along other arrows
pub walk_along : (one two : Arrow) (all others : List ℕ) → ((j k : ℕ) → IsTrue (is_in k all) → IsTrue (one j k) → IsTrue (is_in k others) × IsTrue (two j k))
    → {i k : ℕ} → Walk one all i k → Walk two others i k
walk_along one two all others step (one_arrow {i = i} {k = k} among a) = let s = step i k among a in one_arrow s.0 s.1
walk_along one two all others step (and_then {j = j} {k = k} w among a) = let s = step j k among a in and_then (walk_along one two all others step w) s.0 s.1

module _ (table : ConflictRelation) (courses : List Course) (h : List Event) (t : Tables) (legal : IsTrue (is_legal table courses h)) (kept : IsKept courses h t) where
  abbrev es : List Entry
  es = active_net (at_rest courses h)

  apart : Apart es
  apart = apartness.apart table courses h t legal kept

  same_net : t.net ≡ es
  same_net = net-is table courses h t legal kept

  no_running : running_steps (at_rest courses h) ≡ []
  no_running = ap (filter (λ (e : Entry). not e.undo)) (all_running-at_rest courses h)

  -- an arrow of the conflict graph
  arrow-is : (k i : ℕ) → arrow table (at_rest courses h) k i ≡ arrow_among table es k i
  arrow-is k i = both_ways (arrow table (at_rest courses h) k i) (arrow_among table es k i) to from
    where
      later : Entry → List Entry
      later x = behind x es ++ running_steps (at_rest courses h)

      same_later : (x : Entry) → later x ≡ behind x es
      same_later x = ap (λ rs. behind x es ++ rs) no_running ∙ append-nil (behind x es)

      to : arrow table (at_rest courses h) k i ≡ true → arrow_among table es k i ≡ true
      to is =
          let one = among-any (λ x. eqb x.process k && list_any (λ y. eqb y.process i && conflict table x y) (behind x es ++ running_steps (at_rest courses h))) es is in
          let x = one.0 in
          let parts = and_parts (eqb x.process k) (list_any (λ y. eqb y.process i && conflict table x y) (behind x es ++ running_steps (at_rest courses h))) one.2 in
          let two = among-any (λ y. eqb y.process i && conflict table x y) (behind x es ++ running_steps (at_rest courses h)) parts.1 in
          in_turn-behind (λ x y. eqb x.process k && (eqb y.process i && conflict table x y)) es x two.0 apart one.1 (subst (Among two.0) (same_later x) two.1)
          (and_from (eqb x.process k) (eqb two.0.process i && conflict table x two.0) parts.0 two.2)

      from : arrow_among table es k i ≡ true → arrow table (at_rest courses h) k i ≡ true
      from is =
          let b = behind_of (λ x y. eqb x.process k && (eqb y.process i && conflict table x y)) es apart is in
          let parts = and_parts (eqb b.first.process k) (eqb b.second.process i && conflict table b.first b.second) b.is in
          any-among (λ x. eqb x.process k && list_any (λ y. eqb y.process i && conflict table x y) (behind x es ++ running_steps (at_rest courses h))) b.first es b.there
          (and_from (eqb b.first.process k) (list_any (λ y. eqb y.process i && conflict table b.first y) (behind b.first es ++ running_steps (at_rest courses h))) parts.0
          (any-among (λ y. eqb y.process i && conflict table b.first y) b.second (behind b.first es ++ running_steps (at_rest courses h)) (subst (Among b.second) (sym (same_later b.first)) b.back) parts.1))

  abbrev all : List ℕ
  all = map (λ (e : Entry). e.process) es

  -- it leads to a process that has an entry
  leads_there : (j k : ℕ) → IsTrue (arrow_among table es j k) → (y : Entry) × Among y es × (y.process ≡ k)
  leads_there j k is =
      let b = behind_of (λ x y. eqb x.process j && (eqb y.process k && conflict table x y)) es apart is in
      let parts = and_parts (eqb b.second.process k) (conflict table b.first b.second) (and_parts (eqb b.first.process j) (eqb b.second.process k && conflict table b.first b.second) b.is).1 in
      (b.second, among_behind b.first b.second es b.back, eqb-true b.second.process k parts.0)

  -- walks of the conflict graph
  pub reaches-is : (i k : ℕ) → reaches table (at_rest courses h) i k ≡ leads_among table es i k
  reaches-is i k =
      both_ways (reaches table (at_rest courses h) i k) (leads_among table es i k)
      (λ is. leads-from_walk (arrow_among table es) all
      (walk_along (arrow table (at_rest courses h)) (arrow_among table es) (holders (at_rest courses h)) all to (walk-from_leads (arrow table (at_rest courses h)) (holders (at_rest courses h)) i k is)))
      (λ is. leads-from_walk (arrow table (at_rest courses h)) (holders (at_rest courses h))
      (walk_along (arrow_among table es) (arrow table (at_rest courses h)) all (holders (at_rest courses h)) from (walk-from_leads (arrow_among table es) all i k is)))
    where
      to : (j n : ℕ) → IsTrue (is_in n (holders (at_rest courses h))) → IsTrue (arrow table (at_rest courses h) j n) → IsTrue (is_in n all) × IsTrue (arrow_among table es j n)
      to j n among a =
          let a' = sym (arrow-is j n) ∙ a in
          let there = leads_there j n a' in
          (subst (λ m. IsTrue (is_in m all)) there.2 (is_in-among there.0.process all (in_map (λ (e : Entry). e.process) there.0 es there.1)), a')

      from : (j n : ℕ) → IsTrue (is_in n all) → IsTrue (arrow_among table es j n) → IsTrue (is_in n (holders (at_rest courses h))) × IsTrue (arrow table (at_rest courses h) j n)
      from j n among a =
          let there = leads_there j n a in
          let goes = (among_active_net courses h there.0 there.1).1 in
          (is_holder courses h n ∙ subst (λ m. IsTrue (is_active h m)) there.2 goes, arrow-is j n ∙ a)

  pub circle-apart : (b : Entry) → closes_circle table t.net b ≡ false → ClosesNoCircle table (at_rest courses h) b
  circle-apart b none x there clash =
      let none' : closes_circle table es b ≡ false = sym (ap (λ xs. closes_circle table xs b) same_net) ∙ none in
      reaches-is b.process x.process
      ∙ not_passed (leads_among table es b.process x.process)
      (λ led. false≢true (sym (none_of_all (λ x. conflict table b x && leads_among table es b.process x.process) x es none' there)
      ∙ and_from (conflict table b x) (leads_among table es b.process x.process) clash led))

  pub apart-circle : (b : Entry) → ClosesNoCircle table (at_rest courses h) b → closes_circle table t.net b ≡ false
  apart-circle b closes =
      ap (λ xs. closes_circle table xs b) same_net
      ∙ not_any (λ x. conflict table b x && leads_among table es b.process x.process) es
      (λ x there. not_passed (conflict table b x && leads_among table es b.process x.process)
      (λ is.
      let parts = and_parts (conflict table b x) (leads_among table es b.process x.process) is in
      false≢true (sym (closes x there parts.0) ∙ (reaches-is b.process x.process ∙ parts.1))))
