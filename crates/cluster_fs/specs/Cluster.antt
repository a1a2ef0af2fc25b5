-- The files of a cluster beside a store.
use Rattle.s3_types.specs.Store.{Content, Files, Scene}

-- The scene with these files and this store.
abbrev pub beside : Content → Files → Scene
beside content files = record { content = content; files = files }
