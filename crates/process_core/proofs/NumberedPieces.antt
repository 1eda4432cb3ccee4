-- Pieces are numbered from 1 in the order in which they were handed out.
use Rattle.std.proofs.Common.{◌≡◌, ℕ, ◌+◌, true, List, [], ◌∷◌, ◌++◌, length, map, drop, slice_index_or, sym, refl, ap, subst, ◌∙◌, append-nil, length-append, arith}
use Rattle.std.proofs.lemmas.List.{map-append}
use Rattle.process_tree.specs.Blocks.{numbers_from}
use Rattle.machine_model.specs.declared.kept.Kept.{Kept}
use Rattle.machine_model.specs.declared.kept.Kept.TheVariants.{Start, Hand, Effect, Refuse, Abort, Victim, Restart}
use Rattle.machine_model.specs.declared.kept.Work.{Work}
use Rattle.machine_model.specs.Moment.{Moment, Piece}
use Rattle.machine_model.specs.Pieces.{hands}
use Rattle.machine_model.specs.Runs.{may_be_kept}
use Rattle.machine_model.proofs.RunInduction.{run-keeps}
use Rattle.machine_model.proofs.RunningNext.{hand_parts}
use Rattle.machine_model.proofs.Snoc.{advances, hands-append, now-kept}
use Rattle.core_state.specs.Cores.{CoreState, IsCore, courses_in, machine_of, relation}
use Rattle.process_core.specs.Handing.{AreNumbered}
use Rattle.core_state.proofs.StartedProcesses.{numbers_more}

-- the last of pieces that are numbered from a on
pub last_numbered : (a : ℕ) (ps : List Piece) (p : Piece) → map (λ (q : Piece). q.number) (ps ++ p ∷ []) ≡ numbers_from a (length (ps ++ p ∷ [])) → p.number ≡ a + length ps
last_numbered a [] p are = let same = ap (λ xs. slice_index_or xs 0 0) are in omega arith
last_numbered a (q ∷ ps) p are = let rest = last_numbered (a + 1) ps p (ap (drop 1) are) in omega arith

numbered_more : (ps : List Piece) (p : Piece) → AreNumbered ps → p.number ≡ length ps + 1 → AreNumbered (ps ++ p ∷ [])
numbered_more ps p are next =
    let e : p.number ≡ 1 + length ps = omega arith in
    map-append (λ (q : Piece). q.number) ps (p ∷ [])
    ∙ (ap (λ xs. xs ++ p.number ∷ []) are
    ∙ (ap (λ n. numbers_from 1 (length ps) ++ n ∷ []) e
    ∙ (sym (numbers_more 1 (length ps)) ∙ ap (numbers_from 1) (sym (length-append ps (p ∷ []))))))

module _ (c : CoreState) (core : IsCore c) where
  same_hands : (m : Moment) (k : Kept) → hands (k ∷ []) ≡ [] → AreNumbered (hands m.kept) → AreNumbered (hands (m.kept ++ k ∷ []))
  same_hands m k none are = subst AreNumbered (sym (hands-append m.kept (k ∷ []) ∙ (ap (λ ps. hands m.kept ++ ps) none ∙ append-nil (hands m.kept)))) are

  by_event : (m : Moment) (k : Kept) → AreNumbered (hands m.kept) → may_be_kept (relation c) (courses_in c) m k ≡ true → AreNumbered (hands (m.kept ++ k ∷ []))
  by_event m (Hand n i b w) are may =
      let p : Piece = record { number = n; process = i; step = b; work = w } in
      subst AreNumbered (sym (hands-append m.kept (Hand n i b w ∷ []))) (numbered_more (hands m.kept) p are (hand_parts (relation c) (courses_in c) m p may).number)
  by_event m (Start i) are may = same_hands m (Start i) refl are
  by_event m (Effect n) are may = same_hands m (Effect n) refl are
  by_event m (Refuse n) are may = same_hands m (Refuse n) refl are
  by_event m (Abort i) are may = same_hands m (Abort i) refl are
  by_event m (Victim i) are may = same_hands m (Victim i) refl are
  by_event m Restart are may = same_hands m Restart refl are

  pub hands_numbered : AreNumbered (hands c.kept)
  hands_numbered = subst (λ ks. AreNumbered (hands ks)) (now-kept (relation c) (machine_of c))
      (run-keeps (relation c) (machine_of c) (λ m. AreNumbered (hands m.kept)) (λ m k are may. subst (λ ks. AreNumbered (hands ks)) (sym (advances (relation c) (courses_in c) m k).kept) (by_event m k are may)) core.session.run refl)

-- where the last event of a beginning is a hand, and no later event is one, that is the last hand
pub hand_behind : (ks rest front : List Kept) (n i b : ℕ) (w : Work) → AreNumbered (hands ks) → hands ks ≡ hands rest → rest ≡ front ++ Hand n i b w ∷ [] → n ≡ length (hands ks)
hand_behind ks rest front n i b w are same is =
    let p : Piece = record { number = n; process = i; step = b; work = w } in
    let all : hands ks ≡ hands front ++ p ∷ [] = same ∙ (ap hands is ∙ hands-append front (Hand n i b w ∷ [])) in
    let last = last_numbered 1 (hands front) p (subst AreNumbered all are) in
    let many = ap length all ∙ length-append (hands front) (p ∷ []) in
    omega arith

-- and where it is none, what stands before it has all hands
pub no_hand_behind : (ks rest front : List Kept) (k : Kept) → hands ks ≡ hands rest → rest ≡ front ++ k ∷ [] → hands (k ∷ []) ≡ [] → hands ks ≡ hands front
no_hand_behind ks rest front k same is none = same ∙ (ap hands is ∙ (hands-append front (k ∷ []) ∙ (ap (λ ps. hands front ++ ps) none ∙ append-nil (hands front))))

-- an event that is no hand hands out nothing
pub no_hand : (k : Kept) → ((n i b : ℕ) (w : Work) → k ≡ Hand n i b w → ⊥) → hands (k ∷ []) ≡ []
no_hand (Start i) not_one = refl
no_hand (Hand n i b w) not_one = absurd (not_one n i b w refl)
no_hand (Effect n) not_one = refl
no_hand (Refuse n) not_one = refl
no_hand (Abort i) not_one = refl
no_hand (Victim i) not_one = refl
no_hand Restart not_one = refl
