-- A book is read back from its bodies.
use Rattle.std.specs.Prelude.{◌^◌}
use Rattle.std.proofs.Common.{◌≡◌, ◌≢◌, ◌<◌, ◌≤◌, ◌+◌, ℕ, true, List, [], ◌∷◌, ◌++◌, length, length-append, append_assoc, append-nil, All, Ok, refl, sym, ap, subst, ◌∙◌, arith, ⊎_elim, inl, inr}
use Rattle.std.specs.Cmp.Derive.{both_true}
use Rattle.std.specs.List.{flat_map}
use Rattle.std.proofs.lemmas.Bool.{lt-ltb, eq-eqb}
use Rattle.std.proofs.lemmas.List.Elements.{All-head, All-tail}
use Rattle.resource_box.specs.declared.call.Kind.{Kind}
use Rattle.process_disk.specs.Disk.{file_of}
use Rattle.gate_log.proofs.Reading.{logs_are_read}
use Rattle.subsystem_store.specs.declared.effect.Effect.{Effect}
use Rattle.subsystem_store.specs.Bodies.{prepared_bytes, committed_bytes, prepared_bodies, group_bodies, store_bodies, last_number}
use Rattle.subsystem_store.specs.Order.{Book, may_follow, commits, after_body, read_on, read_bodies, of_log, no_book}
use Rattle.subsystem_store.specs.Laws.{FitsItsBytes, ComeInOrder, BooksAreReadBack, EitherIsReadBack}
use Rattle.subsystem_store.proofs.BodiesBack.{prepared_back, committed_back}
use Rattle.subsystem_store.proofs.Reading.{prepared_in_place, committed_due}

-- a book with what is in doubt
abbrev pub book_with : List Effect → List Effect → Book
book_with book doubt = record { book = book; doubt = doubt }

-- an effect that may follow is in doubt once its record is read,
read_prepared : (kind : Kind) (n : ℕ) (book doubt : List Effect) (e : Effect) (rest : List (List ℕ)) → FitsItsBytes e → may_follow kind (book ++ doubt) e ≡ true → length (book ++ doubt) < 16384
    → read_bodies kind n (prepared_bytes e ∷ rest) (book_with book doubt) ≡ read_bodies kind (n + 1) rest (book_with book (doubt ++ e ∷ []))
read_prepared kind n book doubt e rest fits follows few =
    ap (read_on (read_bodies kind (n + 1) rest)) (ap (after_body kind n (book_with book doubt)) (prepared_back e fits)
    ∙ prepared_in_place kind n (book_with book doubt) e (both_true (lt-ltb (length (book ++ doubt)) 16384 few) follows))

-- and so are several,
read_each_prepared : (kind : Kind) (n : ℕ) (book doubt effects : List Effect) (rest : List (List ℕ)) → ComeInOrder kind (book ++ doubt) effects → length (book ++ doubt) + length effects ≤ 16384
    → read_bodies kind n (prepared_bodies effects ++ rest) (book_with book doubt) ≡ read_bodies kind (n + length effects) rest (book_with book (doubt ++ effects))
read_each_prepared kind n book doubt [] rest order few =
    let same : n ≡ n + 0 = omega arith in
    ap (λ m. read_bodies kind m rest (book_with book doubt)) same ∙ ap (λ (d : List Effect). read_bodies kind (n + 0) rest (book_with book d)) (sym (append-nil doubt))
read_each_prepared kind n book doubt (e ∷ effects) rest (fits, follows, order) few =
    let on : ComeInOrder kind (book ++ (doubt ++ e ∷ [])) effects = subst (λ (b : List Effect). ComeInOrder kind b effects) (append_assoc book doubt (e ∷ [])) order in
    let size : length (book ++ (doubt ++ e ∷ [])) ≡ length (book ++ doubt) + 1 = omega (arith, length-append book (doubt ++ e ∷ []), length-append doubt (e ∷ []), length-append book doubt) in
    let sum : n + 1 + length effects ≡ n + length (e ∷ effects) = omega arith in
    read_prepared kind n book doubt e (prepared_bodies effects ++ rest) fits follows (omega (arith, few))
    ∙ read_each_prepared kind (n + 1) book (doubt ++ e ∷ []) effects rest on (omega (arith, few, size))
    ∙ ap (λ m. read_bodies kind m rest (book_with book ((doubt ++ e ∷ []) ++ effects))) sum
    ∙ ap (λ (d : List Effect). read_bodies kind (n + length (e ∷ effects)) rest (book_with book d)) (append_assoc doubt (e ∷ []) effects)

-- the number of the last commits all,
commits_last : (doubt : List Effect) → doubt ≢ [] → commits doubt (last_number doubt) ≡ true
commits_last [] some = absurd (some refl)
commits_last (e ∷ []) some = eq-eqb e.number e.number refl
commits_last (e ∷ next ∷ doubt) some = commits_last (next ∷ doubt) (λ none. cc)

-- and fits its bytes
last_fits : (kind : Kind) (before doubt : List Effect) → ComeInOrder kind before doubt → last_number doubt < 2 ^ 32
last_fits kind before [] order = omega arith
last_fits kind before (e ∷ []) order = order.0.number
last_fits kind before (e ∷ next ∷ doubt) (fits, follows, order) = last_fits kind (before ++ e ∷ []) (next ∷ doubt) order

-- so all are committed once the next record is read
read_committed : (kind : Kind) (n : ℕ) (book doubt : List Effect) (rest : List (List ℕ)) → doubt ≢ [] → last_number doubt < 2 ^ 32
    → read_bodies kind n (committed_bytes (last_number doubt) ∷ rest) (book_with book doubt) ≡ read_bodies kind (n + 1) rest (book_with (book ++ doubt) [])
read_committed kind n book doubt rest some fits =
    ap (read_on (read_bodies kind (n + 1) rest)) (ap (after_body kind n (book_with book doubt)) (committed_back (last_number doubt) fits)
    ∙ committed_due n (last_number doubt) book doubt (commits_last doubt some))

-- effects in order, taken apart
order_parts : (kind : Kind) (before book more : List Effect) → ComeInOrder kind before (book ++ more) → ComeInOrder kind before book × ComeInOrder kind (before ++ book) more
order_parts kind before [] more order = (tt, subst (λ (b : List Effect). ComeInOrder kind b more) (sym (append-nil before)) order)
order_parts kind before (e ∷ book) more (fits, follows, order) =
    let parts = order_parts kind (before ++ e ∷ []) book more order in
    ((fits, follows, parts.0), subst (λ (b : List Effect). ComeInOrder kind b more) (append_assoc before (e ∷ []) book) parts.1)

-- the effects of groups
abbrev flat : List (List Effect) → List Effect
flat groups = flat_map (λ (group : List Effect). group) groups

regroup : (prepared : List (List ℕ)) (committed : List ℕ) (others doubt : List (List ℕ)) → ((prepared ++ committed ∷ []) ++ others) ++ doubt ≡ prepared ++ committed ∷ (others ++ doubt)
regroup prepared committed others doubt = simp append_assoc

-- the groups that come behind a book are read behind it
read_behind : (kind : Kind) (n : ℕ) (before : List Effect) (groups : List (List Effect)) (doubt : List Effect) → All (λ (group : List Effect). group ≢ []) groups → ComeInOrder kind before (flat groups ++ doubt)
    → length before + length (flat groups ++ doubt) ≤ 16384 → read_bodies kind n (store_bodies groups doubt) (book_with before []) ≡ Ok (book_with (before ++ flat groups) doubt)
read_behind kind n before [] doubt some order few =
    let on : ComeInOrder kind (before ++ []) doubt = subst (λ (b : List Effect). ComeInOrder kind b doubt) (sym (append-nil before)) order in
    ap (λ (bs : List (List ℕ)). read_bodies kind n bs (book_with before [])) (sym (append-nil (prepared_bodies doubt)))
    ∙ read_each_prepared kind n before [] doubt [] on (omega (arith, few, ap length (append-nil before)))
    ∙ ap (λ (b : List Effect). Ok (book_with b doubt)) (sym (append-nil before))
read_behind kind n before (group ∷ groups) doubt some order few =
    let Some' : List Effect → Type 0 = λ (g : List Effect). g ≢ [] in
    let whole : (group ++ flat groups) ++ doubt ≡ group ++ (flat groups ++ doubt) = append_assoc group (flat groups) doubt in
    let parts = order_parts kind before group (flat groups ++ doubt) (subst (ComeInOrder kind before) whole order) in
    let first : ComeInOrder kind (before ++ []) group = subst (λ (b : List Effect). ComeInOrder kind b group) (sym (append-nil before)) parts.0 in
    let size = ap length whole ∙ length-append group (flat groups ++ doubt) in
    ap (λ (bs : List (List ℕ)). read_bodies kind n bs (book_with before [])) (regroup (prepared_bodies group) (committed_bytes (last_number group)) (flat_map group_bodies groups) (prepared_bodies doubt))
    ∙ read_each_prepared kind n before [] group (committed_bytes (last_number group) ∷ store_bodies groups doubt) first (omega (arith, few, size, ap length (append-nil before)))
    ∙ read_committed kind (n + length group) before group (store_bodies groups doubt) (All-head Some' group groups some) (last_fits kind before group parts.0)
    ∙ read_behind kind (n + length group + 1) (before ++ group) groups doubt (All-tail Some' group groups some) parts.1 (omega (arith, few, size, length-append before group))
    ∙ ap (λ (b : List Effect). Ok (book_with b doubt)) (append_assoc before group (flat groups))

pub books_are_read_back : BooksAreReadBack
books_are_read_back kind q book doubt files good store =
    let groups = store.of.groups in
    let order : ComeInOrder kind [] (flat groups ++ doubt) = subst (λ (b : List Effect). ComeInOrder kind [] (b ++ doubt)) (sym store.of.all) good.order in
    let few = ap (λ (b : List Effect). length (b ++ doubt)) store.of.all in
    ap (of_log kind) ((logs_are_read q store.bodies (file_of files q)).0 store.so)
    ∙ ap (λ (bs : List (List ℕ)). read_bodies kind 1 bs no_book) store.of.are
    ∙ read_behind kind 1 [] groups doubt store.of.some order (omega (arith, good.few, few))
    ∙ ap (λ (b : List Effect). Ok (book_with b doubt)) store.of.all

pub either_is_read_back : EitherIsReadBack
either_is_read_back kind q one two files one_good two_good either =
    ⊎_elim (λ log. inl (books_are_read_back kind q one.0 one.1 files one_good log)) (λ log. inr (books_are_read_back kind q two.0 two.1 files two_good log)) either
