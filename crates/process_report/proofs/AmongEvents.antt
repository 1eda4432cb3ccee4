-- Events among the starts, the acts and the ends; numbers in a row; entries one by one and all together.
use Rattle.std.proofs.Common.{◌≡◌, inl, inr, ℕ, zero, suc, ◌+◌, ◌<◌, ◌≤◌, List, [], ◌∷◌, refl, subst, arith}
use Rattle.process_tree.specs.Blocks.{numbers_from}
use Rattle.process_tree.specs.Order.{Each}
use Rattle.process_tree.specs.declared.entry.Entry.{Entry}
use Rattle.schedule_model.specs.declared.event.Event.{Event}
use Rattle.schedule_model.specs.declared.event.Event.TheVariants.{Start, Act, End}
use Rattle.schedule_model.specs.Histories.{acts, starts, ends}
use Rattle.schedule_model.proofs.Members.{Among}

pub start-in : (i : ℕ) (es : List Event) → Among (Start i) es → Among i (starts es)
start-in i [] is = is
start-in i (Start k ∷ es) (inl e) = let same : k ≡ i = cc in inl same
start-in i (Start k ∷ es) (inr later) = inr (start-in i es later)
start-in i (Act a ∷ es) (inl e) = absurd (cc)
start-in i (Act a ∷ es) (inr later) = start-in i es later
start-in i (End k ∷ es) (inl e) = absurd (cc)
start-in i (End k ∷ es) (inr later) = start-in i es later

pub act-in : (a : Entry) (es : List Event) → Among (Act a) es → Among a (acts es)
act-in a [] is = is
act-in a (Act b ∷ es) (inl e) = let same : b ≡ a = cc in inl same
act-in a (Act b ∷ es) (inr later) = inr (act-in a es later)
act-in a (Start k ∷ es) (inl e) = absurd (cc)
act-in a (Start k ∷ es) (inr later) = act-in a es later
act-in a (End k ∷ es) (inl e) = absurd (cc)
act-in a (End k ∷ es) (inr later) = act-in a es later

pub end-in : (i : ℕ) (es : List Event) → Among (End i) es → Among i (ends es)
end-in i [] is = is
end-in i (End k ∷ es) (inl e) = let same : k ≡ i = cc in inl same
end-in i (End k ∷ es) (inr later) = inr (end-in i es later)
end-in i (Act a ∷ es) (inl e) = absurd (cc)
end-in i (Act a ∷ es) (inr later) = end-in i es later
end-in i (Start k ∷ es) (inl e) = absurd (cc)
end-in i (Start k ∷ es) (inr later) = end-in i es later

pub numbers-within : (i k n : ℕ) → Among i (numbers_from k n) → (k ≤ i) × (i < k + n)
numbers-within i k zero is = absurd is
numbers-within i k (suc n) (inl e) = (omega (arith, e), omega (arith, e))
numbers-within i k (suc n) (inr later) = let rest = numbers-within i (k + 1) n later in (let b = rest.0 in omega (arith, b), let b = rest.1 in omega (arith, b))

pub each-from : (P : Entry → Type 0) (es : List Entry) → ((e : Entry) → Among e es → P e) → Each P es
each-from P [] are = tt
each-from P (e ∷ es) are = (are e (inl refl), each-from P es (λ f is. are f (inr is)))

pub each-at : (P : Entry → Type 0) (es : List Entry) (e : Entry) → Each P es → Among e es → P e
each-at P [] e are is = absurd is
each-at P (x ∷ es) e are (inl here) = subst P here are.0
each-at P (x ∷ es) e are (inr later) = each-at P es e are.1 later
