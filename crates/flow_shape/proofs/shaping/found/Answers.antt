use Rattle.flow_shape.proofs.Found.{Finds, is_shape, is_shape_of}
use Rattle.flow_shape.proofs.shaping.found.Goals as goal

pub new-requires : goal.new-requires
new-requires c =
    let f : Finds c.args.flow c.args.dict.now c.args.schemas.items c.in_ok-parts.parts.items c.in_ok-written.written.items c.args.order.items c.in_ok-stored.stored.items = record {
      known = c.requires.known;
      joined = c.requires.joined;
      ports = c.requires.ports;
      acyclic = c.requires.acyclic;
      in_order = c.requires.order;
      fit = c.requires.fit;
      files = c.requires.files;
      are_schemas = rw (← c.as_slice-2.ensures.value) c.in_ok-written.ensures.schemas;
      each_parts = rw (← c.as_slice.ensures.value) c.in_ok-parts.ensures;
      each_written = rw (← c.as_slice-2.ensures.value) c.in_ok-written.ensures.routes;
      each_stored = c.in_ok-stored.ensures;
    } in
    rw (c.from_vec.ensures, c.from_vec-2.ensures, c.from_vec-3.ensures, c.from_vec-4.ensures, c.from_vec-5.ensures) (is_shape c.args.flow c.args.dict.now c.args.schemas.items c.in_ok-parts.parts.items c.in_ok-written.written.items c.args.order.items c.in_ok-stored.stored.items f)

pub returns : goal.returns
returns c =
    let f : Finds c.args.flow c.args.dict.now c.args.schemas.items c.in_ok-parts.parts.items c.in_ok-written.written.items c.args.order.items c.in_ok-stored.stored.items = record {
      known = c.requires.known;
      joined = c.requires.joined;
      ports = c.requires.ports;
      acyclic = c.requires.acyclic;
      in_order = c.requires.order;
      fit = c.requires.fit;
      files = c.requires.files;
      are_schemas = rw (← c.as_slice-2.ensures.value) c.in_ok-written.ensures.schemas;
      each_parts = rw (← c.as_slice.ensures.value) c.in_ok-parts.ensures;
      each_written = rw (← c.as_slice-2.ensures.value) c.in_ok-written.ensures.routes;
      each_stored = c.in_ok-stored.ensures;
    } in
    rw (c.new.ensures, c.from_vec.ensures, c.from_vec-2.ensures, c.from_vec-3.ensures, c.from_vec-4.ensures, c.from_vec-5.ensures) (is_shape_of c.args.flow c.args.dict.now c.args.schemas.items c.in_ok-parts.parts.items c.in_ok-written.written.items c.args.order.items c.in_ok-stored.stored.items f)
