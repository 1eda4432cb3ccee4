mod NamedModes
