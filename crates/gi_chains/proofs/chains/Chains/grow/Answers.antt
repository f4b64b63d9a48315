use Rattle.std.proofs.Common.{◌≡◌, ◌+◌, ◌-◌, ◌<◌, ◌^◌, ◌++◌, arith, length, ap, sym, ◌∙◌, replicate, length-append, List, [], refl, subst}
use Rattle.std.proofs.lemmas.List.{length-replicate}
use Rattle.gi_chains.specs.Lists.{Lists, IsApart}
use Rattle.gi_chains.specs.Links.{walked, no_ends, IsChained}
use Rattle.gi_chains.specs.Seats.{nodes_of, blank_seat}
use Rattle.gi_chains.specs.declared.node.Node.{Node}
use Rattle.gi_chains.proofs.Keeping.{kept_apart, settled, viewed, nodes_more, words_more}
use Rattle.gi_chains.proofs.Growing.{IsChained-grow}
use Rattle.gi_chains.proofs.chains.Chains.grow.Goals as goal

pub invariant_of-self-2 : goal.invariant_of-self-2
invariant_of-self-2 c =
    let chained = IsChained-grow _ _ _ c.self.invariant.chained c.saturating_sub-more_lists.result c.saturating_sub-more_nodes.result in
    let grown_nodes : IsChained (c.self.inside.ends.items ++ replicate c.saturating_sub-more_lists.result no_ends) (nodes_of (c.self.inside.seats.items ++ replicate c.saturating_sub-more_nodes.result blank_seat)) (walked c.self.inside.ends.items (nodes_of c.self.inside.seats.items) ++ replicate c.saturating_sub-more_lists.result []) = subst (λ (ns : List Node). IsChained (c.self.inside.ends.items ++ replicate c.saturating_sub-more_lists.result no_ends) ns (walked c.self.inside.ends.items (nodes_of c.self.inside.seats.items) ++ replicate c.saturating_sub-more_lists.result [])) (sym (nodes_more c.self.inside.seats.items c.saturating_sub-more_nodes.result)) chained in
    let lists_before = c.self.invariant.few_lists in
    let nodes_before = c.self.invariant.few_nodes in
    let lists_now : length (c.self.inside.ends.items ++ replicate c.saturating_sub-more_lists.result no_ends) < 2 ^ 32 = omega (arith, length-append c.self.inside.ends.items (replicate c.saturating_sub-more_lists.result no_ends), length-replicate c.saturating_sub-more_lists.result no_ends, c.len.ensures, c.self.inside.ends.ok.0, c.saturating_sub-more_lists.ensures) in
    let nodes_now : length (c.self.inside.seats.items ++ replicate c.saturating_sub-more_nodes.result blank_seat) < 2 ^ 32 = omega (arith, length-append c.self.inside.seats.items (replicate c.saturating_sub-more_nodes.result blank_seat), length-replicate c.saturating_sub-more_nodes.result blank_seat, c.len-2.ensures, c.self.inside.seats.ok.0, c.saturating_sub-more_nodes.ensures) in
    settled _ _ _ _ _ (c.add_ends.ensures ∙ ap (λ es. es ++ replicate c.saturating_sub-more_lists.result no_ends) c.in_ok-make_room.ensures.items) (c.add_seats.ensures ∙ ap (λ ns. ns ++ replicate c.saturating_sub-more_nodes.result blank_seat) c.in_ok-make_room-2.ensures.items) grown_nodes lists_now nodes_now

pub returns-clause-ok : goal.returns-clause-ok
returns-clause-ok c =
    let chained = IsChained-grow _ _ _ c.self.invariant.chained c.saturating_sub-more_lists.result c.saturating_sub-more_nodes.result in
    let grown_nodes : IsChained (c.self.inside.ends.items ++ replicate c.saturating_sub-more_lists.result no_ends) (nodes_of (c.self.inside.seats.items ++ replicate c.saturating_sub-more_nodes.result blank_seat)) (walked c.self.inside.ends.items (nodes_of c.self.inside.seats.items) ++ replicate c.saturating_sub-more_lists.result []) = subst (λ (ns : List Node). IsChained (c.self.inside.ends.items ++ replicate c.saturating_sub-more_lists.result no_ends) ns (walked c.self.inside.ends.items (nodes_of c.self.inside.seats.items) ++ replicate c.saturating_sub-more_lists.result [])) (sym (nodes_more c.self.inside.seats.items c.saturating_sub-more_nodes.result)) chained in
    let v : length c.self.inside.seats.items ≡ c.args.self.now.nodes = ap (λ (v : Lists). v.nodes) c.self.view_is in
    let w : walked c.self.inside.ends.items (nodes_of c.self.inside.seats.items) ≡ c.args.self.now.lists = ap (λ (v : Lists). v.lists) c.self.view_is in
    let more_lists : c.saturating_sub-more_lists.result ≡ c.args.lists - length c.args.self.now.lists = c.saturating_sub-more_lists.ensures ∙ ap (λ z. c.args.lists - z) (c.len.ensures ∙ c.self.inside.ends.ok.0 ∙ sym c.self.invariant.chained.count ∙ ap length w) in
    let more_nodes : c.saturating_sub-more_nodes.result ≡ (c.args.last + 1) - c.args.self.now.nodes = c.saturating_sub-more_nodes.ensures ∙ ap (λ z. (c.args.last + 1) - z) (c.len-2.ensures ∙ c.self.inside.seats.ok.0 ∙ v) in
    viewed _ _ _ _ _ (c.add_ends.ensures ∙ ap (λ es. es ++ replicate c.saturating_sub-more_lists.result no_ends) c.in_ok-make_room.ensures.items) (c.add_seats.ensures ∙ ap (λ ns. ns ++ replicate c.saturating_sub-more_nodes.result blank_seat) c.in_ok-make_room-2.ensures.items) grown_nodes
    _ (omega (arith, length-append c.self.inside.seats.items (replicate c.saturating_sub-more_nodes.result blank_seat), length-replicate c.saturating_sub-more_nodes.result blank_seat, more_nodes, v))
    _ (ap (λ z. z ++ replicate c.saturating_sub-more_lists.result []) w ∙ ap (λ n. c.args.self.now.lists ++ replicate n []) more_lists)
    _ (words_more c.self.inside.seats.items c.saturating_sub-more_nodes.result ∙ ap (λ (v : Lists). v.words ++ replicate c.saturating_sub-more_nodes.result 0) c.self.view_is ∙ ap (λ n. c.args.self.now.words ++ replicate n 0) more_nodes)

pub returns-then-last-ge-MAX_NODES-clause-apart : goal.returns-then-last-ge-MAX_NODES-clause-apart
returns-then-last-ge-MAX_NODES-clause-apart c = subst IsApart c.self.view_is (kept_apart _ _ c.self.invariant)

pub returns-in_err-make_room-clause-apart : goal.returns-in_err-make_room-clause-apart
returns-in_err-make_room-clause-apart c = kept_apart _ _ (settled _ _ _ _ _ c.in_err-make_room.ensures.items refl c.self.invariant.chained c.self.invariant.few_lists c.self.invariant.few_nodes)

pub returns-in_err-make_room-2-clause-apart : goal.returns-in_err-make_room-2-clause-apart
returns-in_err-make_room-2-clause-apart c = kept_apart _ _ (settled _ _ _ _ _ c.in_ok-make_room.ensures.items c.in_err-make_room-2.ensures.items c.self.invariant.chained c.self.invariant.few_lists c.self.invariant.few_nodes)

pub returns-clause-apart : goal.returns-clause-apart
returns-clause-apart c = kept_apart _ _ (invariant_of-self-2 c)
