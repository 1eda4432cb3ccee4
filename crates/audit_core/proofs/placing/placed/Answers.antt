use Rattle.std.proofs.Common.{◌≡◌, ℕ, ◌+◌, List, [], ◌∷◌, ◌++◌, length, ap, sym, refl, ◌∙◌, arith}
use Rattle.process_tree.specs.declared.entry.Entry.{Entry}
use Rattle.schedule_model.specs.Histories.{acts}
use Rattle.schedule_model.proofs.Appends.{acts-append}
use Rattle.dependence_model.specs.Dependence.{placed_from}
use Rattle.audit_core.proofs.placing.placed.Goals as goal

-- the places go on
placed_from-append : (n : ℕ) (xs ys : List Entry) → placed_from n (xs ++ ys) ≡ placed_from n xs ++ placed_from (length xs + n) ys
placed_from-append n [] ys = ap (λ k. placed_from k ys) (omega arith)
placed_from-append n (x ∷ xs) ys =
    ap (λ zs. record { place = n; entry = x } ∷ zs) (placed_from-append (n + 1) xs ys
    ∙ ap (λ k. placed_from (n + 1) xs ++ placed_from k ys) (omega arith))

length-placed_from : (n : ℕ) (xs : List Entry) → length (placed_from n xs) ≡ length xs
length-placed_from n [] = refl
length-placed_from n (x ∷ xs) = let more = length-placed_from (n + 1) xs in omega (arith, more)

pub returns : goal.returns
returns c =
    let first = acts c.args.first.now in
    let none : c.new-list.result.items ≡ [] = c.new-list.ensures.items in
    let one : c.add_acts.new.list.items ≡ placed_from 1 first =
    c.in_ok-add_acts.ensures ∙ ap (λ xs. xs ++ placed_from (length xs + 1) first) none in
    let long : length c.add_acts.new.list.items ≡ length first = ap length one ∙ length-placed_from 1 first in
    c.in_ok-add_acts-2.ensures
    ∙ (ap (λ xs. xs ++ placed_from (length c.add_acts.new.list.items + 1) (acts c.args.then.now)) one
    ∙ (ap (λ k. placed_from 1 first ++ placed_from (k + 1) (acts c.args.then.now)) long
    ∙ (sym (placed_from-append 1 first (acts c.args.then.now)) ∙ ap (placed_from 1) (sym (acts-append c.args.first.now c.args.then.now)))))
