-- Steps from tree to tree in a table.
use Rattle.std.proofs.Common.{◌≡◌, ℕ, suc, ◌+◌, ◌-◌, ◌<◌, ◌≤◌, List, length, sym, ap, ◌∙◌, subst, arith}
use Rattle.linearize.specs.declared.nodes.Node.{Node}
use Rattle.linearize.specs.Nodes.{node_at, skipped, argument_start, Reached}

pub skip_more : (nodes : List Node) (from j at : ℕ) → 1 ≤ j → at ≡ skipped nodes from (j - 1) → (node_at nodes at).end ≡ skipped nodes from (j + 1 - 1)
skip_more nodes from j at h e =
    let s : suc (j - 1) ≡ j + 1 - 1 = omega arith in
    ap (λ (p : ℕ). (node_at nodes p).end) e ∙ ap (skipped nodes from) s

pub skip_inside : (nodes : List Node) (i k j at : ℕ) → Reached nodes i k → j - 1 < k → at ≡ skipped nodes (suc i) (j - 1) → at < length nodes
skip_inside nodes i k j at r h e = subst (λ (p : ℕ). p < length nodes) (sym e) (r.within (j - 1) h)

pub skip_all : (nodes : List Node) (i k j at : ℕ) → Reached nodes i k → k ≤ j → (1 ≤ k → j ≤ k) → at ≡ skipped nodes (suc i) (j - 1) → at ≡ argument_start nodes i k
skip_all nodes i k j at r a b e = let s : j ≡ k = omega (arith, r.counts, b r.counts) in e ∙ ap (λ (n : ℕ). skipped nodes (suc i) (n - 1)) s
