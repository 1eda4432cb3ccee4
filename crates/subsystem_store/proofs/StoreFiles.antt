-- The bodies of a store's file, and the images of a call.
use Rattle.std.specs.List.{flat_map}
use Rattle.std.proofs.Common.{true, ◌≡◌, ◌≢◌, ◌≤◌, ◌+◌, ◌*◌, inl, inr, ℕ, List, [], ◌∷◌, ◌++◌, length, All, refl, sym, ◌∙◌, ap, subst, arith, append_assoc, append-nil, length-append, ⊎_elim}
use Rattle.std.proofs.lemmas.Grind.{flat_map-append}
use Rattle.std.proofs.lemmas.List.{map-append, length-map}
use Rattle.std.proofs.lemmas.List.Elements.{All-head, All-tail, All-nil, All-push}
use Rattle.std.proofs.lemmas.Bool.{eqb-true}
use Rattle.process_disk.specs.Disk.{Disk}
use Rattle.process_disk.specs.Images.{EachImage}
use Rattle.process_disk.proofs.Images.{each_so}
use Rattle.gate_log.specs.LogFile.{records_size}
use Rattle.gate_log.specs.Staging.{LogsBeforeOrWithAll, staging, staging_all}
use Rattle.gate_log.specs.Standing.{Logs, LogState, CanRetract, CanRetractLast}
use Rattle.subsystem_store.specs.declared.effect.Effect.{Effect}
use Rattle.subsystem_store.specs.Bodies.{prepared_bytes, committed_bytes, prepared_bodies, group_bodies, last_number, AreBodiesOf, SomeBodies}
use Rattle.subsystem_store.specs.Order.{commits, most_effects}
use Rattle.subsystem_store.specs.Opened.{IsStoreOf, IsStoreOfEither}

-- a store without an effect has no bodies
pub no_bodies : AreBodiesOf [] [] []
no_bodies = record { groups = []; some = All-nil (λ (group : List Effect). group ≢ []); all = refl; are = refl }

-- with more effects in doubt there are their bodies more,
pub bodies_prepared : (book doubt effects : List Effect) (bodies : List (List ℕ)) → AreBodiesOf book doubt bodies → AreBodiesOf book (doubt ++ effects) (bodies ++ prepared_bodies effects)
bodies_prepared book doubt effects bodies of = record {
  groups = of.groups;
  some = of.some;
  all = of.all;
  are = ap (λ (bs : List (List ℕ)). bs ++ prepared_bodies effects) of.are
      ∙ append_assoc (flat_map group_bodies of.groups) (prepared_bodies doubt) (prepared_bodies effects)
      ∙ ap (λ (bs : List (List ℕ)). flat_map group_bodies of.groups ++ bs) (sym (map-append prepared_bytes doubt effects));
}

regroup : (groups prepared : List (List ℕ)) (committed : List ℕ) → (groups ++ prepared) ++ committed ∷ [] ≡ (groups ++ ((prepared ++ committed ∷ []) ++ [])) ++ []
regroup groups prepared committed = simp (append_assoc, append-nil)

-- once they are committed there is one body more,
pub bodies_committed : (book doubt : List Effect) (bodies : List (List ℕ)) → doubt ≢ [] → AreBodiesOf book doubt bodies → AreBodiesOf (book ++ doubt) [] (bodies ++ committed_bytes (last_number doubt) ∷ [])
bodies_committed book doubt bodies some of = record {
  groups = of.groups ++ doubt ∷ [];
  some = All-push (λ (group : List Effect). group ≢ []) of.groups doubt of.some some;
  all = flat_map-append (λ (group : List Effect). group) of.groups (doubt ∷ []) ∙ ap (λ (b : List Effect). b ++ (doubt ++ [])) of.all ∙ ap (λ (d : List Effect). book ++ d) (append-nil doubt);
  are = ap (λ (bs : List (List ℕ)). bs ++ committed_bytes (last_number doubt) ∷ []) of.are
      ∙ regroup (flat_map group_bodies of.groups) (prepared_bodies doubt) (committed_bytes (last_number doubt))
      ∙ ap (λ (bs : List (List ℕ)). bs ++ []) (sym (flat_map-append group_bodies of.groups (doubt ∷ [])));
}

-- which a number commits that is that of the last;
pub commits_are : (doubt : List Effect) (number : ℕ) → commits doubt number ≡ true → (doubt ≢ []) × (last_number doubt ≡ number)
commits_are [] number is = absurd cc
commits_are (e ∷ []) number is = (λ none. cc, eqb-true e.number number is)
commits_are (e ∷ next ∷ doubt) number is = (λ none. cc, (commits_are (next ∷ doubt) number is).1)

-- and without those in doubt there are the bodies before theirs
pub record Before (book doubt : List Effect) (bodies : List (List ℕ)) : Type 0 where
  pub front : List (List ℕ)
  pub are : bodies ≡ front ++ prepared_bodies doubt
  pub of : AreBodiesOf book [] front

pub bodies_before : (book doubt : List Effect) (bodies : List (List ℕ)) → AreBodiesOf book doubt bodies → Before book doubt bodies
bodies_before book doubt bodies of = record {
  front = flat_map group_bodies of.groups;
  are = of.are;
  of = record { groups = of.groups; some = of.some; all = of.all; are = sym (append-nil (flat_map group_bodies of.groups)) };
}

-- how many bodies are those of effects that are prepared, and how many bytes their records are
pub prepared_count : (effects : List Effect) → length (prepared_bodies effects) ≡ length effects
prepared_count effects = length-map effects prepared_bytes

pub prepared_size : (effects : List Effect) → records_size (prepared_bodies effects) ≡ 28 * length effects
prepared_size [] = refl
prepared_size (e ∷ effects) = omega (arith, prepared_size effects)

-- some effects have some bodies
pub some_prepared : (effects : List Effect) → effects ≢ [] → prepared_bodies effects ≢ []
some_prepared [] some = absurd (some refl)
some_prepared (e ∷ effects) some = λ none. cc

-- The last effects that are prepared can be taken back together, where any last records can.
pub prepared_can_go : (doubt : List Effect) (before bodies : List (List ℕ)) (log : LogState) → doubt ≢ [] → bodies ≡ before ++ prepared_bodies doubt → CanRetractLast bodies log → CanRetract (length doubt) (28 * length doubt) log
prepared_can_go doubt before bodies log some are last =
    subst (λ n. CanRetract n (28 * length doubt) log) (prepared_count doubt)
    (subst (λ size. CanRetract (length (prepared_bodies doubt)) size log) (prepared_size doubt) (last before (prepared_bodies doubt) are (some_prepared doubt some)))

-- one body staged in front of others
pub staged_on : (log : LogState) (body : List ℕ) (bodies : List (List ℕ)) → staging_all (staging log body) bodies ≡ staging_all log (body ∷ bodies)
staged_on log body bodies = ap (λ (bs : List (List ℕ)). record { file = log.file; count = log.count; end = log.end; staged = bs }) (append_assoc log.staged (body ∷ []) bodies)

-- how many bodies there are at most
groups_count : (groups : List (List Effect)) → All (λ (group : List Effect). group ≢ []) groups → length (flat_map group_bodies groups) ≤ 2 * length (flat_map (λ (group : List Effect). group) groups)
groups_count [] some = omega arith
groups_count (group ∷ groups) some =
    let Some' : List Effect → Type 0 = λ (g : List Effect). g ≢ [] in
    let rest = groups_count groups (All-tail Some' group groups some) in
    let one = one_or_more group (All-head Some' group groups some) in
    let here = length-append (prepared_bodies group) (committed_bytes (last_number group) ∷ []) in
    omega (arith, rest, one, here, prepared_count group, length-append (group_bodies group) (flat_map group_bodies groups), length-append group (flat_map (λ (g : List Effect). g) groups))
  where
    one_or_more : (effects : List Effect) → effects ≢ [] → 1 ≤ length effects
    one_or_more [] some = absurd (some refl)
    one_or_more (e ∷ effects) some = omega arith

pub bodies_count : (book doubt : List Effect) (bodies : List (List ℕ)) → AreBodiesOf book doubt bodies → length bodies ≤ 2 * length book + length doubt
bodies_count book doubt bodies of =
    omega (arith, ap length of.are, length-append (flat_map group_bodies of.groups) (prepared_bodies doubt), prepared_count doubt, groups_count of.groups of.some, ap length of.all)

-- so an opened store has room for its records, and those in doubt can be taken back
pub opened_room : (book doubt : List Effect) (bodies : List (List ℕ)) (log : LogState) → AreBodiesOf book doubt bodies → log.count ≡ length bodies → CanRetractLast bodies log → length (book ++ doubt) ≤ most_effects
    → (log.count ≤ 2 * length book + length doubt) × (length book + length doubt ≤ most_effects) × (doubt ≢ [] → CanRetract (length doubt) (28 * length doubt) log)
opened_room book doubt bodies log of count last few = (
  omega (arith, count, bodies_count book doubt bodies of),
  omega (arith, few, length-append book doubt),
  λ some. prepared_can_go doubt (bodies_before book doubt bodies of).front bodies log some (bodies_before book doubt bodies of).are last,
)

-- each image of a call, in the words of the store: as before,
pub images_as_before : (q : ℕ) (book doubt : List Effect) (bodies : List (List ℕ)) (disk : Disk) (t : ℕ) → AreBodiesOf book doubt bodies → EachImage disk t (Logs q bodies) → EachImage disk t (IsStoreOf q book doubt)
images_as_before q book doubt bodies disk t of images = each_so disk t (Logs q bodies) (IsStoreOf q book doubt) (λ files log. record { bodies = bodies; of = of; so = log }) images

-- or with all that is staged,
pub images_with : (q : ℕ) (book doubt : List Effect) (bodies staged : List (List ℕ)) (disk : Disk) (t : ℕ) → AreBodiesOf book doubt bodies → EachImage disk t (LogsBeforeOrWithAll q bodies staged)
    → EachImage disk t (λ files. SomeBodies book doubt (λ bs. LogsBeforeOrWithAll q bs staged files))
images_with q book doubt bodies staged disk t of images =
    each_so disk t (LogsBeforeOrWithAll q bodies staged) (λ files. SomeBodies book doubt (λ bs. LogsBeforeOrWithAll q bs staged files)) (λ files log. record { bodies = bodies; of = of; so = log }) images

-- which are one of two books with what is in doubt
pub images_of_two : (q : ℕ) (one two : List Effect × List Effect) (bodies more : List (List ℕ)) (disk : Disk) (t : ℕ) → AreBodiesOf one.0 one.1 bodies → AreBodiesOf two.0 two.1 (bodies ++ more) → EachImage disk t (LogsBeforeOrWithAll q bodies more)
    → EachImage disk t (IsStoreOfEither q one two)
images_of_two q one two bodies more disk t first second images =
    each_so disk t (LogsBeforeOrWithAll q bodies more) (IsStoreOfEither q one two)
    (λ files. ⊎_elim (λ log. inl (record { bodies = bodies; of = first; so = log })) (λ log. inr (record { bodies = bodies ++ more; of = second; so = log }))) images
