use Rattle.fl_segments.proofs.AddLemmas.{main-adds, main-behind, main-gives, main-named}
use Rattle.fl_segments.proofs.commands.add_main.Goals as goal

pub returns-clause-nodes : goal.returns-clause-nodes
returns-clause-nodes c =
    main-adds c.args.width c.args.number c.args.coming.now c.args.stage.now _ _ _ _ _ _ _ _ _ _ _ _ _ (record {
      front = c.in_ok-taken.ensures.nodes;
      to_front = c.in_ok-taken.ensures.next;
      taken_is = c.in_ok-taken.ensures.parts;
      leads_is = c.begins.ensures;
      does_so = c.in_ok-done.ensures.nodes;
      to_does = c.in_ok-done.ensures.next;
      done_is = c.in_ok-done.ensures.parts;
      nodes_are = c.in_ok-done.ensures.named;
      beside_so = c.in_ok-parts.ensures.nodes;
      to_beside = c.in_ok-parts.ensures.next;
      both_is = c.in_ok-parts.ensures.parts;
    })

pub returns-clause-next : goal.returns-clause-next
returns-clause-next c =
    main-behind c.args.width c.args.number c.args.coming.now c.args.stage.now _ _ _ _ _ _ _ _ _ _ _ _ _ (record {
      front = c.in_ok-taken.ensures.nodes;
      to_front = c.in_ok-taken.ensures.next;
      taken_is = c.in_ok-taken.ensures.parts;
      leads_is = c.begins.ensures;
      does_so = c.in_ok-done.ensures.nodes;
      to_does = c.in_ok-done.ensures.next;
      done_is = c.in_ok-done.ensures.parts;
      nodes_are = c.in_ok-done.ensures.named;
      beside_so = c.in_ok-parts.ensures.nodes;
      to_beside = c.in_ok-parts.ensures.next;
      both_is = c.in_ok-parts.ensures.parts;
    })

pub returns-clause-parts : goal.returns-clause-parts
returns-clause-parts c =
    main-gives c.args.width c.args.number c.args.coming.now c.args.stage.now _ _ _ _ _ _ _ _ _ _ _ _ _ (record {
      front = c.in_ok-taken.ensures.nodes;
      to_front = c.in_ok-taken.ensures.next;
      taken_is = c.in_ok-taken.ensures.parts;
      leads_is = c.begins.ensures;
      does_so = c.in_ok-done.ensures.nodes;
      to_does = c.in_ok-done.ensures.next;
      done_is = c.in_ok-done.ensures.parts;
      nodes_are = c.in_ok-done.ensures.named;
      beside_so = c.in_ok-parts.ensures.nodes;
      to_beside = c.in_ok-parts.ensures.next;
      both_is = c.in_ok-parts.ensures.parts;
    })

pub returns-clause-named : goal.returns-clause-named
returns-clause-named c =
    main-named c.args.width c.args.number c.args.coming.now c.args.stage.now _ _ _ _ _ _ _ _ _ _ _ _ _ (record {
      front = c.in_ok-taken.ensures.nodes;
      to_front = c.in_ok-taken.ensures.next;
      taken_is = c.in_ok-taken.ensures.parts;
      leads_is = c.begins.ensures;
      does_so = c.in_ok-done.ensures.nodes;
      to_does = c.in_ok-done.ensures.next;
      done_is = c.in_ok-done.ensures.parts;
      nodes_are = c.in_ok-done.ensures.named;
      beside_so = c.in_ok-parts.ensures.nodes;
      to_beside = c.in_ok-parts.ensures.next;
      both_is = c.in_ok-parts.ensures.parts;
    })
