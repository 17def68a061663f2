mod ConnectLaws
