use Rattle.std.proofs.Common.{Ok, Err, refl}
use Rattle.toml.specs.View.{table_view}
use Rattle.fleet_program.specs.Configuration.{of_listen, of_upstreams, of_peers, of_sweep, together}
use Rattle.fleet_program.proofs.Configurations.{listen_at, upstreams_at, peers_at, sweep_at, says_of}
use Rattle.fleet_program.proofs.settings.settings_of.Goals as goal

pub returns-in-Err : goal.returns-in-Err
returns-in-Err c =
    of_listen (c.if-not-has_only_known_keys.ensures.0 refl)
    (listen_at c.args.table.now.entries (Err c.in-Err.fault) c.get.result c.get.ensures.value
    c.in-Err.ensures)

pub returns-in-Err-upstreams_of : goal.returns-in-Err-upstreams_of
returns-in-Err-upstreams_of c =
    of_upstreams (
      c.if-not-has_only_known_keys.ensures.0 refl,
      (
        c.in-Ok.listen,
        listen_at c.args.table.now.entries (Ok c.in-Ok.listen) c.get.result
            c.get.ensures.value c.in-Ok.ensures,
      ),
    )
    (upstreams_at c.args.table.now.entries (Err c.in-Err-upstreams_of.fault) c.get-2.result
    c.get-2.ensures.value c.in-Err-upstreams_of.ensures)

pub returns-in-Err-peers_of : goal.returns-in-Err-peers_of
returns-in-Err-peers_of c =
    of_peers (
      (
        c.if-not-has_only_known_keys.ensures.0 refl,
        (
          c.in-Ok.listen,
          listen_at c.args.table.now.entries (Ok c.in-Ok.listen) c.get.result
              c.get.ensures.value c.in-Ok.ensures,
        ),
      ),
      (
        c.in-Ok-upstreams_of.upstreams.items,
        upstreams_at c.args.table.now.entries
            (Ok c.in-Ok-upstreams_of.upstreams.items) c.get-2.result c.get-2.ensures.value
            c.in-Ok-upstreams_of.ensures,
      ),
    )
    (peers_at c.args.table.now.entries (Err c.in-Err-peers_of.fault) c.get-3.result
    c.get-3.ensures.value c.in-Err-peers_of.ensures)

pub returns-in-Err-sweep_of : goal.returns-in-Err-sweep_of
returns-in-Err-sweep_of c =
    of_sweep (
      (
        (
          c.if-not-has_only_known_keys.ensures.0 refl,
          (
            c.in-Ok.listen,
            listen_at c.args.table.now.entries (Ok c.in-Ok.listen) c.get.result
                c.get.ensures.value c.in-Ok.ensures,
          ),
        ),
        (
          c.in-Ok-upstreams_of.upstreams.items,
          upstreams_at c.args.table.now.entries
              (Ok c.in-Ok-upstreams_of.upstreams.items) c.get-2.result c.get-2.ensures.value
              c.in-Ok-upstreams_of.ensures,
        ),
      ),
      (
        c.in-Ok-peers_of.peers.items,
        peers_at c.args.table.now.entries
            (Ok c.in-Ok-peers_of.peers.items) c.get-3.result c.get-3.ensures.value
            c.in-Ok-peers_of.ensures,
      ),
    )
    (sweep_at c.args.table.now.entries (Err c.in-Err-sweep_of.fault) c.get-4.result
    c.get-4.ensures.value c.in-Err-sweep_of.ensures)

pub returns-in-Ok-new : goal.returns-in-Ok-new
returns-in-Ok-new c =
    says_of (table_view c.args.table.now) c.in-Ok.listen c.in-Ok-upstreams_of.upstreams.items
    c.in-Ok-peers_of.peers.items c.in-Ok-sweep_of.sweep c.in-Ok-new.config
    c.in-Ok-new.ensures.value (record {
      keys = c.if-not-has_only_known_keys.ensures.0 refl;
      in_listen = listen_at c.args.table.now.entries (Ok c.in-Ok.listen) c.get.result
          c.get.ensures.value c.in-Ok.ensures;
      in_upstreams = upstreams_at c.args.table.now.entries
          (Ok c.in-Ok-upstreams_of.upstreams.items) c.get-2.result c.get-2.ensures.value
          c.in-Ok-upstreams_of.ensures;
      in_peers = peers_at c.args.table.now.entries (Ok c.in-Ok-peers_of.peers.items) c.get-3.result
          c.get-3.ensures.value c.in-Ok-peers_of.ensures;
      in_sweep = sweep_at c.args.table.now.entries (Ok c.in-Ok-sweep_of.sweep) c.get-4.result
          c.get-4.ensures.value c.in-Ok-sweep_of.ensures;
    })

pub returns-in-Err-new : goal.returns-in-Err-new
returns-in-Err-new c =
    together c.in-Ok.listen c.in-Ok-upstreams_of.upstreams.items c.in-Ok-peers_of.peers.items
    c.in-Ok-sweep_of.sweep (record {
      keys = c.if-not-has_only_known_keys.ensures.0 refl;
      in_listen = listen_at c.args.table.now.entries (Ok c.in-Ok.listen) c.get.result
          c.get.ensures.value c.in-Ok.ensures;
      in_upstreams = upstreams_at c.args.table.now.entries
          (Ok c.in-Ok-upstreams_of.upstreams.items) c.get-2.result c.get-2.ensures.value
          c.in-Ok-upstreams_of.ensures;
      in_peers = peers_at c.args.table.now.entries (Ok c.in-Ok-peers_of.peers.items) c.get-3.result
          c.get-3.ensures.value c.in-Ok-peers_of.ensures;
      in_sweep = sweep_at c.args.table.now.entries (Ok c.in-Ok-sweep_of.sweep) c.get-4.result
          c.get-4.ensures.value c.in-Ok-sweep_of.ensures;
    })
    c.in-Err-new.fault c.in-Err-new.ensures.value c.config_fault.ensures
